-- A record that begins with a root implies no parent: until something settles the position is 0, and all that can be
-- read there is the header of the root, whose path is empty. Assumes nothing.
use Prim.Native.Nat.{ℕ}
use mathlib.Core.Path.{◌≡◌, refl, sym, ap, ◌∙◌}
use mathlib.Core.Bool.{Bool, true, false, ◌&&◌, ◌||◌, true≢false}
use mathlib.Core.List.{List, [], ◌∷◌, ◌++◌, map, reverse, append_assoc}
use native.Mathlib.Omega.{arith}
use lib.ListN.{drop}
use Rattle.basics.specs.Lists.{every}
use Rattle.basics.proofs.Bools.{pick, and_both}
use Rattle.tools.specs.Bytes.{Octets}
use Rattle.table.specs.Check.{check_table, only_ids}
use Rattle.table.specs.Table.{Entry, table_of, data_type_of, path_of, is_typed, parts_of, parts_in}
use Rattle.table.specs.declared.types.PathPart.{PathPart}
use Rattle.table.proofs.Entries.{path_of_lem}
use Rattle.spec_util.specs.declared.types.OpenTag.{OpenTag}
use Rattle.tag_parse.specs.Header.{read_header}
use Rattle.tag_parse.specs.declared.types.TagHeader.{TagHeader}
use Rattle.tag_parse.proofs.Headers.{header_local, header_spec}
use Rattle.decoder_rules.specs.FirstPlace.{settle_header, settle_at}
use Rattle.decoder_rules.specs.Numbers.{answer_refusal}
use Rattle.decoder_rules.specs.OneCall.{good_form, is_settle}
use Rattle.decoder_rules.specs.Record.{implied}
use Rattle.decoder_rules.specs.declared.types.Answer.{Answer}
use Rattle.decoder_rules.specs.declared.types.Answer.TheVariants as answer
use Rattle.decoder_rules.specs.declared.types.Event.TheVariants as event
use Rattle.decoder_rules.specs.declared.types.Search.{Search}
use Rattle.decoder_rules.specs.declared.types.TagDecoder.{TagDecoder}
use Rattle.guarantees.specs.Calls.{Call, lent, Response, answered, searched, silent, record_after, history, Lent}
use Rattle.guarantees.specs.CutRecords.{InOrder}
use Rattle.guarantees.specs.History.{Started, taken_in, position}
use Rattle.guarantees.specs.Promises.{Runs, last_response, open_at, left_at, position_at}
use Rattle.guarantees.specs.Settling.{is_strict_after, implied_by, comes_unread, seen_note, has_settled}
use Rattle.guarantees.proofs.AnyCalls.{ResponseFacts, SettledByResponse, settled_after, promised_after}
use Rattle.guarantees.proofs.Decided.{Heads}
use Rattle.guarantees.proofs.FullEnds.{no_search}
use Rattle.guarantees.proofs.InOrder.{is_element, takes_none, lends_front, lends_no_recovery}
use Rattle.known_places.specs.FromRoot.{BeginsAtRoot, FromRoot}
use Rattle.known_places.specs.KnownPlaces.{ever_implied}
use Rattle.known_places.proofs.KnownPlaces.{known_places}
use Rattle.std.specs.Prelude.{Err, None, Ok, Option, Result, Some}
use Rattle.tag_parse.specs.declared.types.ParseError.{ParseError}
use Rattle.table.specs.declared.types.Path.{Path}
use Rattle.decoder_rules.specs.declared.types.Refusal.{Refusal}
use Rattle.tools.specs.declared.status.Status.{Status}
use Rattle.tools.specs.declared.status.Status.TheVariants as status

-- the first of two tests, where none of them passes
neither : (a b : Bool) → (a || b) ≡ false → a ≡ false
neither true b e = absurd (true≢false e)
neither false b e = refl

module _ (es ps : List ℕ) (s rest : List ℕ) (w : BeginsAtRoot (table_of es ps) (s ++ rest)) where
  abbrev t : List Entry
  t = table_of es ps

  -- ---- at the position 0, on the front b of the record

  module _ (b v : List ℕ) (byte : Octets b) (lies : b ++ v ≡ s) where
    -- what is read there is the header of the root
    same_header : (h : TagHeader) → read_header t b ≡ Ok (status.Complete h) → h ≡ w.its
    same_header h r =
        let long : read_header t (b ++ (v ++ rest)) ≡ Ok (status.Complete h) = header_local t b (v ++ rest) (byte 0) (rw r) ∙ r in
        let all : b ++ (v ++ rest) ≡ s ++ rest = sym (append_assoc b v rest) ∙ ap (λ (y : List ℕ). y ++ rest) lies in
        let q : Ok (status.Complete h) ≡ Ok (status.Complete w.its) = sym long ∙ ap (read_header t) all ∙ w.read in
        cc

    root_parts : (h : TagHeader) → read_header t b ≡ Ok (status.Complete h) → parts_in (parts_of ps) h.path ≡ []
    root_parts h r =
        path_of_lem es ps h.id (header_spec t b h r).path ∙ ap (λ (g : TagHeader). path_of t g.id) (same_header h r) ∙ w.root

    -- it settles on no parent
    settles_on_none : (strict : Bool) → implied_by ps (settle_at strict t b) ≡ []
    unfolding settle_at implied_by
    settles_on_none strict = go (read_header t b) refl
      where
        go : (r : Result (Status TagHeader) ParseError) → read_header t b ≡ r → implied_by ps (settle_header strict t r) ≡ []
        go (Ok (status.NeedMore missing)) q = refl
        go (Err e) q = refl
        go (Ok (status.Complete h)) q =
            pick (λ (n : Option Path). implied_by ps n ≡ []) (good_form strict h.id && (is_typed h.kind && only_ids (path_of t h.id))) (Some h.path) None
            (λ e. ap (λ (l : List PathPart). map (λ (m : OpenTag). m.id) (reverse (map implied l))) (root_parts h q)) (λ e. refl)

    note_none : (strict : Bool) (x : Response) → ((a : Result Search Refusal) (n : ℕ) → x ≡ searched a n → ⊥) → implied_by ps (seen_note strict t b x) ≡ []
    unfolding implied_by
    note_none strict (answered a n) unsearched =
        pick (λ (n : Option Path). implied_by ps n ≡ []) (comes_unread (answer_refusal a)) None (settle_at strict t b) (λ e. refl) (λ e. settles_on_none strict)
    note_none strict (searched a n) unsearched = absurd (unsearched a n refl)
    note_none strict silent unsearched = refl

    -- an element that is handed out there is the root, so it settles
    root_settles : (x : ℕ) → Heads t b x → (is_typed (data_type_of t x) && only_ids (path_of t x)) ≡ true
    unfolding only_ids every
    root_settles x h =
        let id : w.its.id ≡ x = sym (ap (λ (g : TagHeader). g.id) (same_header h.its h.is_read)) ∙ h.same_id in
        let kind : is_typed (data_type_of t x) ≡ true = ap (λ (y : ℕ). is_typed (data_type_of t y)) (sym id) ∙ ap is_typed (sym (header_spec t (s ++ rest) w.its w.read).kind) ∙ w.typed in
        and_both kind (ap (λ (y : ℕ). only_ids (path_of t y)) (sym id) ∙ ap only_ids w.root)

    -- so a call after which nothing has settled takes nothing
    takes_nothing : (off : Bool) (starts : List Started) (left : List ℕ) (p : ℕ) (e : TagDecoder) (x : Response) → ResponseFacts t off b starts left p x → SettledByResponse t x e
        → e.settled ≡ false → ((a : Result Answer Refusal) (n : ℕ) → x ≡ answered a n → is_element a ≡ false → n ≡ 0) → ((a : Result Search Refusal) (n : ℕ) → x ≡ searched a n → ⊥) → taken_in x ≡ 0
    takes_nothing off starts left p e (answered (Ok (answer.Event (event.Start x o))) n) f g u none unsearched = absurd (true≢false (sym g ∙ u))
    takes_nothing off starts left p e (answered (Ok (answer.Event (event.End end))) n) f g u none unsearched = none _ n refl refl
    takes_nothing off starts left p e (answered (Ok (answer.Event (event.Data x o v))) n) f g u none unsearched = absurd (true≢false (sym (g (root_settles x f.1.heads)) ∙ u))
    takes_nothing off starts left p e (answered (Ok (answer.NeedMore missing)) n) f g u none unsearched = none _ n refl refl
    takes_nothing off starts left p e (answered (Ok answer.Finished) n) f g u none unsearched = none _ n refl refl
    takes_nothing off starts left p e (answered (Err r) n) f g u none unsearched = none _ n refl refl
    takes_nothing off starts left p e (searched a n) f g u none unsearched = absurd (unsearched a n refl)
    takes_nothing off starts left p e silent f g u none unsearched = refl

  -- ---- any calls

  -- no parent was implied, and until something settles the position is 0
  record Begun (cs : List Call) : Type 0 where
    none_implied : ever_implied ps t (history es ps cs) ≡ []
    at_front : has_settled t (history es ps cs) ≡ false → position_at es ps cs ≡ 0

  begun : check_table es ps ≡ Ok tt → (cs : List Call) → Lent cs → InOrder es ps s cs → Begun cs
  unfolding Lent InOrder record_after history position ever_implied has_settled
  begun checked [] l i = record { none_implied = refl; at_front = λ e. refl }
  begun checked (c ∷ cs) l i =
      let k = begun checked cs l.1 i.1 in
      let h = history es ps cs in
      let p = position_at es ps cs in
      let d = record_after es ps cs in
      let x = last_response es ps cs c in
      let run : Runs es ps (c ∷ cs) = record { checked = checked; octets = l } in
      let v = lends_front s p c i.0 in
      let unsearched = no_search es ps d c (lends_no_recovery s p c i.0) in
      let lies : has_settled t h ≡ false → lent c ++ v.0 ≡ s = λ e. v.1 ∙ ap (λ (n : ℕ). drop n s) (k.at_front e) in
      record {
        none_implied =
            pick (λ (l : List ℕ). l ++ ever_implied ps t h ≡ []) (has_settled t h) [] (implied_by ps (seen_note (is_strict_after h) t (lent c) x)) (λ e. k.none_implied)
            (λ e. ap (λ (l : List ℕ). l ++ ever_implied ps t h) (note_none (lent c) v.0 l.0 (lies e) (is_strict_after h) x unsearched) ∙ k.none_implied);
        at_front = λ e.
            let u : has_settled t h ≡ false = neither (has_settled t h) (is_settle (seen_note (is_strict_after h) t (lent c) x)) e in
            let a = promised_after es ps cs c run in
            let n : taken_in x ≡ 0 =
            takes_nothing (lent c) v.0 l.0 (lies u) d.settings.allow_oversized (open_at es ps cs) (left_at es ps cs c) p (record_after es ps (c ∷ cs)) x a.promised a.settles
            (settled_after es ps checked (c ∷ cs) l ∙ e) (takes_none es ps d c) unsearched in
            omega (arith, n, k.at_front u);
      }

-- a record that begins with a root implies no parent, of every table that the check passes
pub from_root : (es ps : List ℕ) → check_table es ps ≡ Ok tt → FromRoot es ps
from_root es ps checked = record {
  none_implied = λ s rest w cs l i. (begun es ps s rest w checked cs l i).none_implied;
  known_here = λ s rest w cs c l i on known. (known_places es ps checked).known_before cs c l on (begun es ps s rest w checked (c ∷ cs) l i).none_implied known;
}
