-- Two sound records that are the same, wholly or but for counts, answer every call alike, and so any calls. Assumes
-- nothing.
use Prim.Native.Nat.{ℕ}
use mathlib.Core.Path.{◌≡◌, refl, sym, ap, ◌∙◌}
use mathlib.Core.List.{List, [], ◌∷◌, map}
use lib.ListN.{length, length-map}
use Rattle.basics.specs.Lists.{filled}
use Rattle.tools.specs.Bytes.{Octets}
use Rattle.spec_util.specs.Walk.{no_tag}
use Rattle.decoder_rules.specs.Record.{opens, waits, no_end}
use Rattle.decoder_rules.specs.declared.types.TagDecoder.{TagDecoder}
use Rattle.guarantees.specs.Calls.{Call, lent, Response, response_to, next, Step, Lent}
use Rattle.restarts.specs.Comparing.{Extent, seen_master, seen_end, seen_masters, seen_ends, Sound, Same, seen_record, seen_response, seen_step}
use Rattle.restarts.specs.Runs.{record_from, history_from, CallAlike, RunAlike}
use Rattle.restarts.proofs.SeenCalls.{told-seen, next_seen}
use Rattle.restarts.proofs.SeenDecision.{sound_full, masters_each, ends_each, seen-opens, seen-waits}
use Rattle.restarts.proofs.SeenMoves.{seen_sound, seen_twice}
use Rattle.restarts.proofs.SoundCalls.{next_sound}

-- ---- the relation, and one record that stands for it

module _ (x : Extent) (d e : TagDecoder) where
  -- each of the open masters is the same as far as it is compared
  pub same_masters : Same x d e → map (seen_master x) (opens e) ≡ map (seen_master x) (opens d)
  same_masters h = sym (masters_each x (opens e)) ∙ h.masters ∙ masters_each x (opens d)

  -- and each of the waiting Ends
  pub same_ends : Same x d e → map (seen_end x) (waits e) ≡ map (seen_end x) (waits d)
  same_ends h = sym (ends_each x (waits e)) ∙ h.ends ∙ ends_each x (waits d)

module _ (x : Extent) (d e : TagDecoder) (k : Sound d) (j : Sound e) where
  -- as many masters are open
  pub same_count : Same x d e → e.open_count ≡ d.open_count
  same_count h =
      sym (sound_full e j).masters
      ∙ sym (length-map (opens e) (seen_master x))
      ∙ ap length (same_masters x d e h)
      ∙ length-map (opens d) (seen_master x)
      ∙ (sound_full d k).masters

  -- and as many Ends wait
  pub same_waiting : Same x d e → e.waiting_count ≡ d.waiting_count
  same_waiting h =
      sym (sound_full e j).ends
      ∙ sym (length-map (waits e) (seen_end x))
      ∙ ap length (same_ends x d e h)
      ∙ length-map (waits d) (seen_end x)
      ∙ (sound_full d k).ends

  -- two records are the same as far as they are compared where what is compared of them is one record
  pub same_seen : Same x d e → seen_record x e ≡ seen_record x d
  unfolding seen_record
  same_seen h =
      let settings : e.settings ≡ d.settings = h.settings in
      let masters : filled no_tag (seen_masters x (opens e)) ≡ filled no_tag (seen_masters x (opens d)) = ap (filled no_tag) h.masters in
      let ends : filled no_end (seen_ends x (waits e)) ≡ filled no_end (seen_ends x (waits d)) = ap (filled no_end) h.ends in
      cc (settings, masters, ends, h.position, h.settled, h.finished, same_count h, same_waiting h)

  -- and the other way
  pub seen_same : seen_record x e ≡ seen_record x d → Same x d e
  unfolding seen_record
  seen_same h = record {
    settings = ap (λ (b : TagDecoder). b.settings) h;
    position = ap (λ (b : TagDecoder). b.position) h;
    settled = ap (λ (b : TagDecoder). b.settled) h;
    finished = ap (λ (b : TagDecoder). b.finished) h;
    masters = masters_each x (opens e) ∙ sym (seen-opens x e (sound_full e j)) ∙ ap opens h ∙ seen-opens x d (sound_full d k) ∙ sym (masters_each x (opens d));
    ends = ends_each x (waits e) ∙ sym (seen-waits x e (sound_full e j)) ∙ ap waits h ∙ seen-waits x d (sound_full d k) ∙ sym (ends_each x (waits d));
  }

-- a record is the same as what is compared of it
pub seen_is_same : (x : Extent) (d : TagDecoder) → Sound d → Same x d (seen_record x d)
seen_is_same x d k = seen_same x d (seen_record x d) k (seen_sound x d k) (seen_twice x d k)

-- ---- one call

module _ (x : Extent) (es ps : List ℕ) (d e : TagDecoder) (k : Sound d) (j : Sound e) (h : Same x d e) where
  -- a call on two records that are the same
  pub call_alike : (c : Call) → Octets (lent c) → CallAlike x es ps d e c
  call_alike c byte =
      let one = same_seen x d e k j h in
      let n = next_sound es ps d k c byte in
      let m = next_sound es ps e j c byte in
      record {
        told = sym (told-seen x es ps e j c byte) ∙ ap (λ (b : TagDecoder). seen_response x (response_to es ps b c)) one ∙ told-seen x es ps d k c byte;
        left = seen_same x (next es ps d c) (next es ps e c) n m (sym (next_seen x es ps e j c byte) ∙ ap (λ (b : TagDecoder). seen_record x (next es ps b c)) one ∙ next_seen x es ps d k c byte);
        sound = (n, m);
      }

-- ---- any calls

module _ (x : Extent) (es ps : List ℕ) (d e : TagDecoder) (k : Sound d) (j : Sound e) (h : Same x d e) where
  -- any calls on two records that are the same
  pub run_alike : (cs : List Call) → Lent cs → RunAlike x es ps d e cs
  unfolding record_from history_from Lent seen_step
  run_alike [] l = record { told = refl; left = h; sound = (k, j) }
  run_alike (c ∷ cs) l =
      let before = run_alike cs l.1 in
      let one = call_alike x es ps (record_from es ps d cs) (record_from es ps e cs) before.sound.0 before.sound.1 before.left c l.0 in
      record {
        told =
            ap (λ (r : Response). record { call = c; told = r } ∷ map (seen_step x) (history_from es ps e cs)) one.told
            ∙ ap (λ (g : List Step). seen_step x (record { call = c; told = response_to es ps (record_from es ps d cs) c }) ∷ g) before.told;
        left = one.left;
        sound = one.sound;
      }
