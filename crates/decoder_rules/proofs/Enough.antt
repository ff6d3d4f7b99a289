-- Document 02, CR 1: are as many bytes as are missing ever enough? Where no byte of the size is there, and where the
-- payload is cut, some are. Where the size vint is begun, they are for some bytes exactly where they are for zeros or
-- for FF bytes: the least and the greatest size. Assumes nothing.
use Prim.Native.Nat.{ℕ, ◌+◌, ◌-◌, ◌*◌, ◌^◌, ◌≤◌, ◌<◌}
use mathlib.Core.Path.{◌≡◌, refl, sym, ap, ◌∙◌, subst}
use mathlib.Core.Bool.{Bool, true, false, ◌&&◌, ◌||◌, true≢false, cond}
use mathlib.Core.List.{List, [], ◌++◌}
use mathlib.Core.Logic.{◌⊎◌, inl, inr}
use native.Mathlib.Decide.{dec_le}
use native.Mathlib.Omega.{arith}
use borrow.Author.Tests.{le-leb, leb-true, ltb-false, le-ltb, eqb-false}
use lib.Dec.{ltb}
use lib.ListN.{length, get_or, drop, replicate, length-append, length-replicate, length-drop}
use Rattle.basics.specs.Lists.{every}
use Rattle.basics.proofs.Bools.{absurd_eq}
use Rattle.basics.proofs.Every.{every_other}
use Rattle.tools.specs.Bytes.{Octets}
use Rattle.tools.specs.Vint.{all_ones}
use Rattle.tools.specs.Missing.{Enough}
use Rattle.tools.proofs.BigEndian.{octets_append, octets_zeros}
use Rattle.tools.proofs.Completing.{octets_ones}
use Rattle.tools.proofs.Missing.{nothing_missing}
use Rattle.table.specs.Table.{Entry, table_of, spec_for, is_master}
use Rattle.table.specs.declared.types.TagDataType.{TagDataType}
use Rattle.tag_parse.specs.Header.{too_long, size_of, header_of, sized_by, read_header, header_needs_more, header_missing}
use Rattle.tag_parse.specs.Missing.{SizeBegun, size_length, size_with, CompletesToSize0}
use Rattle.tag_parse.specs.declared.types.EBMLSize.TheVariants.{Known, Unknown}
use Rattle.tag_parse.specs.declared.types.ParseError.TheVariants.{InvalidTagData}
use Rattle.tag_parse.specs.declared.types.TagHeader.{TagHeader}
use Rattle.tag_parse.proofs.Cases.{id_none, header_none, not_long, long_by_kind, size_known}
use Rattle.tag_parse.proofs.Completing.{begun_or_0, begun_header, size_least, size_greatest, greatest_over_8, greatest_below, begun_end}
use Rattle.tag_parse.proofs.Headers.{made, header_sound}
use Rattle.spec_util.specs.declared.types.OpenTag.{OpenTag}
use Rattle.decoder_rules.specs.Record.{farthest, opens, end_of}
use Rattle.decoder_rules.specs.OneCall.{step6, step7, step8, reaches, fits_inside, step9, noted}
use Rattle.decoder_rules.specs.Deciding.{action_needs_more, action_missing, decide}
use Rattle.decoder_rules.specs.Missing.{Stuck}
use Rattle.decoder_rules.specs.declared.types.Action.{Action}
use Rattle.decoder_rules.specs.declared.types.Decision.{Decision}
use Rattle.decoder_rules.specs.declared.types.TagDecoder.{TagDecoder}
use Rattle.decoder_rules.proofs.Exits.{HeaderExit, misplaced, oversized, too_large, past_end, ends_tops, too_many, starts, no_size, payload_incomplete, payload_refused, holds, AtElement, HasPayload, NoneFull, AtBytes, AtHeader, Exit, refused_first, after_finish, hands_out, finished, closes_full, no_byte, header_incomplete, header_refused, id_refused, on_header, exits, exit_decides}
use Rattle.decoder_rules.proofs.AppendedDecision.{none_full_longer, at_header_longer}
use Rattle.decoder_rules.proofs.Missing.{closing_never, decision_asks, none_missing}
use Rattle.std.specs.Prelude.{Err, Ok, Result}
use Rattle.decoder_rules.specs.declared.types.DecodeError.{DecodeError}
use Rattle.tag_parse.specs.declared.types.ParseError.{ParseError}
use Rattle.tools.specs.declared.status.Status.{Status}
use Rattle.tools.specs.declared.status.Status.TheVariants as status

-- ---- waiting for a payload

-- a call waits behind a header that was read
pub record WaitsForPayload (es ps : List ℕ) (d : TagDecoder) (s : List ℕ) : Type 0 where
  pub h : TagHeader
  pub n : ℕ
  pub at : AtHeader es ps d s h
  pub allowed : step6 d h ≡ true
  pub has : HasPayload (table_of es ps) (noted ps d (step7 (table_of es ps) d h)) h n
  pub short : length s < h.len + n

module _ (es ps : List ℕ) (d : TagDecoder) (s : List ℕ) where
  behind_header : {h : TagHeader} {a : Result Action DecodeError} → AtHeader es ps d s h → step6 d h ≡ true
      → HeaderExit (table_of es ps) (noted ps d (step7 (table_of es ps) d h)) h s a → action_needs_more a ≡ true → WaitsForPayload es ps d s
  behind_header at f (misplaced p) q = absurd (true≢false (sym q))
  behind_header at f (oversized n p e g) q = absurd (true≢false (sym q))
  behind_header at f (too_large n p e g i) q = absurd (true≢false (sym q))
  behind_header at f (past_end p e g i) q = absurd (true≢false (sym q))
  behind_header at f (ends_tops v l c) q = absurd (closing_never c q)
  behind_header at f (too_many a k l) q = absurd (true≢false (sym q))
  behind_header at f (starts a k l) q = absurd (true≢false (sym q))
  behind_header at f (no_size a k e) q = absurd (true≢false (sym q))
  behind_header {h} at f (payload_incomplete n has l) q = record { h = h; n = n; at = at; allowed = f; has = has; short = l }
  behind_header at f (payload_refused n x has l e) q = absurd (true≢false (sym q))
  behind_header at f (holds n v has l e) q = absurd (true≢false (sym q))

  -- where a header was read, a call that waits waits for its payload
  pub waits_behind : header_needs_more (read_header (table_of es ps) s) ≡ false → action_needs_more (decide es ps d s).action ≡ true → WaitsForPayload es ps d s
  waits_behind r = go (exits es ps d s)
    where
      go : {a : Decision} → Exit es ps d s a → action_needs_more a.action ≡ true → WaitsForPayload es ps d s
      go (refused_first x e) q = absurd (true≢false (sym q))
      go (after_finish e f l) q = absurd (true≢false (sym q))
      go (hands_out ok w) q = absurd (true≢false (sym q))
      go (finished ok w f) q = absurd (true≢false (sym q))
      go (closes_full o l c) q = absurd (closing_never c q)
      go (no_byte n z) q = absurd (true≢false (sym (ap header_needs_more (header_none (table_of es ps) s (id_none s z))) ∙ r))
      go (header_incomplete at e) q = absurd (true≢false (sym (ap header_needs_more e) ∙ r))
      go (header_refused x at e) q = absurd (true≢false (sym q))
      go (id_refused h at f) q = absurd (true≢false (sym q))
      go (on_header h at f x) q = behind_header at f x q

  -- and the other way round
  pub payload-waits : WaitsForPayload es ps d s → action_needs_more (decide es ps d s).action ≡ true
  payload-waits w = rw (← exit_decides es ps d s (on_header w.h w.at w.allowed (payload_incomplete w.n w.has w.short)))

  -- an element without a payload is not waited for
  pub size_0_waits_not : (h : TagHeader) → Octets s → read_header (table_of es ps) s ≡ Ok (status.Complete h) → h.size ≡ Known 0 → action_needs_more (decide es ps d s).action ≡ true → ⊥
  size_0_waits_not h byte e z q =
      let w = waits_behind (ap header_needs_more e) q in
      let r = w.at.read in
      let same : w.h ≡ h = cc in
      let k = w.has.known in
      let none : w.n ≡ 0 = known-one (sym k ∙ ap (λ (h : TagHeader). h.size) same ∙ z) in
      let whole = (header_sound (table_of es ps) s w.h byte r).whole in
      omega (arith, w.short)
    where
      known-one : {m : ℕ} → Known m ≡ Known 0 → m ≡ 0
      known-one e = cc

-- ---- the cut payload: any bytes are enough

pub payload_enough : (es ps : List ℕ) (d : TagDecoder) (s u : List ℕ) → get_or s 0 0 < 256 → d.finished ≡ false → d.position + length (s ++ u) ≤ farthest
    → (w : WaitsForPayload es ps d s) → length u ≡ w.h.len + w.n - length s → action_needs_more (decide es ps d (s ++ u)).action ≡ true → ⊥
payload_enough es ps d s u byte open_still near w count q =
    let at = at_header_longer es ps d s u byte open_still near w.at in
    let v = waits_behind es ps d (s ++ u) (ap header_needs_more at.read) q in
    let r = at.read in
    let r' = v.at.read in
    let same : v.h ≡ w.h = cc in
    let k = w.has.known in
    let k' = v.has.known in
    let size : v.n ≡ w.n = known-one (sym k' ∙ ap (λ (h : TagHeader). h.size) same ∙ k) in
    let len : v.h.len ≡ w.h.len = ap (λ (h : TagHeader). h.len) same in
    omega (arith, v.short, w.short, length-append s u)
  where
    known-one : {m n : ℕ} → Known m ≡ Known n → m ≡ n
    known-one e = cc

-- ---- the size is begun: between the least size and the greatest

-- what passes 9 with a size passes it with a smaller one
smaller_passes : (d : TagDecoder) (len a b : ℕ) → a ≤ b → step9 d len (Known b) ≡ Ok tt → step9 d len (Known a) ≡ Ok tt
unfolding step9 reaches fits_inside
smaller_passes d len a b h e = go (d.settings.allow_oversized || every (reaches (d.position + (len + b))) (opens d)) refl
  where
    inner : (m : OpenTag) → reaches (d.position + (len + b)) m ≡ true → reaches (d.position + (len + a)) m ≡ true
    inner m r = by m.known refl
      where
        by : (k : Bool) → m.known ≡ k → reaches (d.position + (len + a)) m ≡ true
        by false f = rw f
        by true f =
            let l : d.position + (len + b) ≤ end_of m = leb-true _ _ (rw f at r) in
            rw (f, le-leb (d.position + (len + a)) (end_of m) (omega arith))

    fits : (o : Bool) → d.settings.allow_oversized ≡ o → (o || every (reaches (d.position + (len + b))) (opens d)) ≡ true
        → (o || every (reaches (d.position + (len + a))) (opens d)) ≡ true
    fits true f g = refl
    fits false f g = every_other (reaches (d.position + (len + b))) (reaches (d.position + (len + a))) inner (opens d) g

    small : (g : Bool) → (g && ltb d.settings.max_size b) ≡ false → (g && ltb d.settings.max_size a) ≡ false
    small false f = refl
    small true f =
        let l : b ≤ d.settings.max_size = ltb-false _ _ f in
        let k : a ≤ d.settings.max_size = omega arith in
        le-ltb _ _ k

    go : (o : Bool) → (d.settings.allow_oversized || every (reaches (d.position + (len + b))) (opens d)) ≡ o → step9 d len (Known a) ≡ Ok tt
    go false f = let z = rw f at e in let no : ◌≡◌ {A = ℕ} 0 1 = cc in absurd_eq no
    go true f = large (d.settings.max_given && ltb d.settings.max_size b) refl
      where
        large : (l : Bool) → (d.settings.max_given && ltb d.settings.max_size b) ≡ l → step9 d len (Known a) ≡ Ok tt
        large true g = let z = rw (f, g) at e in let no : ◌≡◌ {A = ℕ} 0 1 = cc in absurd_eq no
        large false g = rw (fits d.settings.allow_oversized refl f, small d.settings.max_given g)

module _ (es ps : List ℕ) (d : TagDecoder) (s : List ℕ) (b : SizeBegun s) (at : AtBytes es ps d s) (byte : Octets s) (open_still : d.finished ≡ false)
    (near : d.position + (length s + header_missing (read_header (table_of es ps) s)) ≤ farthest) where
  abbrev t : List Entry
  t = table_of es ps

  abbrev kind : TagDataType
  kind = (spec_for t b.x).kind

  -- the header with a size
  abbrev head : ℕ → TagHeader
  head v = header_of b.x (spec_for t b.x) b.n v (size_length b)

  -- the bytes make a header whose payload is waited for
  record WaitsWith (u : List ℕ) : Type 0 where
    not_long : too_long kind (size_with b u) ≡ false
    known : size_of (size_with b u) (size_length b) ≡ Known (size_with b u)
    some : 0 < size_with b u
    element : AtElement t (noted ps d (step7 t d (head (size_with b u)))) (head (size_with b u))
    allowed : step6 d (head (size_with b u)) ≡ true
    no_master_lem : is_master kind ≡ false

  asks_none : (v : ℕ) → header_needs_more (sized_by b.x (spec_for t b.x) b.n v (size_length b)) ≡ false
  unfolding sized_by
  asks_none v = go (too_long kind v)
    where
      go : (l : Bool) → header_needs_more (cond l (Err InvalidTagData) (Ok (status.Complete (head v)))) ≡ false
      go true = refl
      go false = refl

  size_is : (v L : ℕ) {n : ℕ} → size_of v L ≡ Known n → n ≡ v
  unfolding size_of
  size_is v L {n} e = go (all_ones L v) e
    where
      go : (o : Bool) → cond o Unknown (Known v) ≡ Known n → n ≡ v
      go true f = let z : ◌≡◌ {A = ℕ} 0 1 = cc in absurd_eq z
      go false f = cc

  waits_with : (u : List ℕ) → length u ≡ header_missing (read_header t s) → action_needs_more (decide es ps d (s ++ u)).action ≡ true → WaitsWith u
  waits_with u e q =
      let r = begun_header t s b u e in
      let w = waits_behind es ps d (s ++ u) (ap header_needs_more r ∙ asks_none (size_with b u)) q in
      let m = made b.x b.n (size_with b u) (size_length b) (spec_for t b.x) w.h (sym r ∙ w.at.read) in
      from w.h w.n m.0 m.1 w.has w.allowed w.short
    where
      from : (h : TagHeader) (n : ℕ) → head (size_with b u) ≡ h → too_long kind (size_with b u) ≡ false → HasPayload t (noted ps d (step7 t d h)) h n
          → step6 d h ≡ true → length (s ++ u) < h.len + n → WaitsWith u
      from h n same long has ok short =
          let has' : HasPayload t (noted ps d (step7 t d (head (size_with b u)))) (head (size_with b u)) n =
          subst (λ (g : TagHeader). HasPayload t (noted ps d (step7 t d g)) g n) (sym same) has in
          let ok' : step6 d (head (size_with b u)) ≡ true = subst (λ (g : TagHeader). step6 d g ≡ true) (sym same) ok in
          let size = size_is (size_with b u) (size_length b) has'.known in
          let len : b.n + size_length b ≡ h.len = ap (λ (h : TagHeader). h.len) same in
          let end = begun_end t s b u e in
          record {
            not_long = long;
            known = has'.known ∙ ap (λ (k : ℕ). Known k) size;
            some = omega arith;
            element = has'.at;
            allowed = ok';
            no_master_lem = has'.no_master_lem;
          }

  known_below : (u : List ℕ) → WaitsWith u → size_with b u < 2 ^ (7 * size_length b) → size_with b u < 2 ^ (7 * size_length b) - 1
  unfolding size_of
  known_below u w below = go (all_ones (size_length b) (size_with b u)) refl
    where
      go : (o : Bool) → all_ones (size_length b) (size_with b u) ≡ o → size_with b u < 2 ^ (7 * size_length b) - 1
      go true f =
          let k = rw f at w.known in
          let z : ◌≡◌ {A = ℕ} 0 1 = cc in
          absurd_eq z
      go false f = omega (arith, eqb-false (size_with b u) (2 ^ (7 * size_length b) - 1) f)

  -- a smaller size is not too long where a greater one is not
  shorter : (v c : ℕ) → v ≤ c → too_long kind c ≡ false → too_long kind v ≡ false
  shorter v c h l = go (dec_le v 8)
    where
      go : Dec (v ≤ 8) → too_long kind v ≡ false
      go (yes i) = not_long kind v i
      go (no f) = long_by_kind kind v (omega arith) ∙ sym (long_by_kind kind c (omega arith)) ∙ l

  -- where the least and the greatest size are waited for, all between them are
  between : WaitsWith (replicate (header_missing (read_header t s)) 0) → WaitsWith (replicate (header_missing (read_header t s)) 255)
      → (u : List ℕ) → Octets u → length u ≡ header_missing (read_header t s) → action_needs_more (decide es ps d (s ++ u)).action ≡ true
  unfolding step8 sized_by
  between lo hi u octets e =
      let v = size_with b u in
      let c = size_with b (replicate (header_missing (read_header t s)) 255) in
      let least = size_least t s b u e in
      let greatest = size_greatest t s b u octets e in
      let below = known_below (replicate (header_missing (read_header t s)) 255) hi (greatest_below t s b byte) in
      let known : size_of v (size_length b) ≡ Known v = size_known v (size_length b) (λ z. omega arith) in
      let long = shorter v c greatest hi.not_long in
      let read : read_header t (s ++ u) ≡ Ok (status.Complete (head v)) = begun_header t s b u e ∙ rw long in
      let more : length (s ++ u) ≡ length s + length u = length-append s u in
      let near' : d.position + length (s ++ u) ≤ farthest = omega arith in
      let at' : AtHeader es ps d (s ++ u) (head v) = record {
        at_bytes = record { none_full = none_full_longer es ps d s u (byte 0) open_still near' at.none_full; some_byte = omega (arith, at.some_byte) };
        read = read;
      } in
      let old = hi.element in
      let passes = smaller_passes (noted ps d (step7 t d (head v))) (b.n + size_length b) v c greatest (rw hi.known at old.valid.size) in
      let element : AtElement t (noted ps d (step7 t d (head v))) (head v) = record {
        valid = record { path = old.valid.path; size = rw known passes };
        none_ended = old.none_ended;
      } in
      let end = begun_end t s b u e in
      let some = lo.some in
      payload-waits es ps d (s ++ u)
      (record { h = head v; n = v; at = at'; allowed = hi.allowed; has = record { at = element; no_master_lem = hi.no_master_lem; known = known }; short = omega arith })

  -- so the call is stuck: no bytes are enough, as many as are missing
  pub stuck : action_needs_more (decide es ps d (s ++ replicate (header_missing (read_header t s)) 0)).action ≡ true
      → action_needs_more (decide es ps d (s ++ replicate (header_missing (read_header t s)) 255)).action ≡ true → Stuck es ps d s
  stuck p q =
      let m = header_missing (read_header t s) in
      let lo = waits_with (replicate m 0) (length-replicate m 0) p in
      let hi = waits_with (replicate m 255) (length-replicate m 255) q in
      let over = greatest_over_8 t s b lo.some in
      record {
        begun = b;
        no_master_lem = hi.no_master_lem;
        no_number = sym (long_by_kind kind _ over) ∙ hi.not_long;
        not_0 = lo.some;
        not_unknown = known_below (replicate m 255) hi (greatest_below t s b byte);
        never = between lo hi;
      }

-- ---- every call that waits

module _ (es ps : List ℕ) (d : TagDecoder) (s : List ℕ) (byte : Octets s) where
  abbrev Numbered : List ℕ → ℕ
  Numbered l = action_missing (decide es ps d l).action

  enough_by : (u : List ℕ) → Octets u → length u ≡ Numbered s → (action_needs_more (decide es ps d (s ++ u)).action ≡ true → ⊥) → Enough Numbered s
  enough_by u octets count never = record { further = u; bytes = octets; count = count; none = go (action_needs_more (decide es ps d (s ++ u)).action) refl }
    where
      go : (q : Bool) → action_needs_more (decide es ps d (s ++ u)).action ≡ q → Numbered (s ++ u) ≡ 0
      go true q = absurd (never q)
      go false q = let none : Numbered (s ++ u) ≤ 0 = ltb-false 0 _ (sym (decision_asks es ps d (s ++ u)) ∙ q) in omega arith

  zeros_octets : (k : ℕ) → Octets (replicate k 0)
  zeros_octets k = octets_zeros [] k (λ i. omega arith)

  -- 1 to 3 are passed where a call waits
  waits_at : action_needs_more (decide es ps d s).action ≡ true → NoneFull es ps d s
  waits_at = go (exits es ps d s)
    where
      go : {a : Decision} → Exit es ps d s a → action_needs_more a.action ≡ true → NoneFull es ps d s
      go (refused_first x e) q = absurd (true≢false (sym q))
      go (after_finish e f l) q = absurd (true≢false (sym q))
      go (hands_out ok w) q = absurd (true≢false (sym q))
      go (finished ok w f) q = absurd (true≢false (sym q))
      go (closes_full o l c) q = absurd (closing_never c q)
      go (no_byte n z) q = n
      go (header_incomplete at e) q = at.none_full
      go (header_refused x at e) q = absurd (true≢false (sym q))
      go (id_refused h at f) q = absurd (true≢false (sym q))
      go (on_header h at f x) q = at.at_bytes.none_full

  -- where the header asks for more, the call waits for that
  header_number : NoneFull es ps d s → header_needs_more (read_header (table_of es ps) s) ≡ true → header_missing (read_header (table_of es ps) s) ≡ Numbered s
  header_number n m = some_or (dec_le 1 (length s))
    where
      by : 0 < length s → (r : Result (Status TagHeader) ParseError) → read_header (table_of es ps) s ≡ r → header_missing (read_header (table_of es ps) s) ≡ Numbered s
      by some (Ok (status.NeedMore k)) e = rw (← exit_decides es ps d s (header_incomplete (record { none_full = n; some_byte = some }) e), e)
      by some (Err x) e = absurd (true≢false (sym m ∙ ap header_needs_more e))
      by some (Ok (status.Complete h)) e = absurd (true≢false (sym m ∙ ap header_needs_more e))

      some_or : Dec (1 ≤ length s) → header_missing (read_header (table_of es ps) s) ≡ Numbered s
      some_or (yes h) = by h (read_header (table_of es ps) s) refl
      some_or (no f) =
          let z : length s ≡ 0 = omega arith in
          rw (← exit_decides es ps d s (no_byte n z), none_missing (table_of es ps) s z)

  payload_number : (w : WaitsForPayload es ps d s) → Numbered s ≡ w.h.len + w.n - length s
  payload_number w = rw (← exit_decides es ps d s (on_header w.h w.at w.allowed (payload_incomplete w.n w.has w.short)))

  module _ (near : d.position + (length s + Numbered s) ≤ farthest) where
    near_with : (u : List ℕ) → length u ≡ Numbered s → d.position + length (s ++ u) ≤ farthest
    near_with u e = let n = near in omega (arith, length-append s u)

    -- the payload is cut: zeros
    payload_then : WaitsForPayload es ps d s → Enough Numbered s
    payload_then w =
        let k = Numbered s in
        let count : length {A = ℕ} (replicate k 0) ≡ k = length-replicate k 0 in
        enough_by (replicate k 0) (zeros_octets k) count
        (λ q. payload_enough es ps d s (replicate k 0) (byte 0) w.at.at_bytes.none_full.reading.unfinished (near_with (replicate k 0) count) w (count ∙ payload_number w) q)

    -- no byte of the size is there: 80 for it
    completed_then : header_missing (read_header (table_of es ps) s) ≡ Numbered s → CompletesToSize0 (table_of es ps) s → Enough Numbered s
    completed_then e c =
        enough_by c.further c.bytes (c.count ∙ e)
        (λ q. size_0_waits_not es ps d (s ++ c.further) c.h (octets_append s c.further byte c.bytes) c.read c.empty q)

    -- the size is begun: zeros, or FF bytes, or none at all
    begun_then : header_missing (read_header (table_of es ps) s) ≡ Numbered s → AtBytes es ps d s → SizeBegun s → Enough Numbered s ⊎ Stuck es ps d s
    begun_then e at b = try-zeros (action_needs_more (decide es ps d (s ++ replicate (header_missing (read_header (table_of es ps) s)) 0)).action) refl
      where
        near' : d.position + (length s + header_missing (read_header (table_of es ps) s)) ≤ farthest
        near' = rw e near

        try-ones : action_needs_more (decide es ps d (s ++ replicate (header_missing (read_header (table_of es ps) s)) 0)).action ≡ true → (q : Bool)
            → action_needs_more (decide es ps d (s ++ replicate (header_missing (read_header (table_of es ps) s)) 255)).action ≡ q → Enough Numbered s ⊎ Stuck es ps d s
        try-ones p true q = inr (stuck es ps d s b at byte at.none_full.reading.unfinished near' p q)
        try-ones p false q =
            let m = header_missing (read_header (table_of es ps) s) in
            inl (enough_by (replicate m 255) (octets_ones m) (length-replicate m 255 ∙ e) (λ r. true≢false (sym r ∙ q)))

        try-zeros : (p : Bool) → action_needs_more (decide es ps d (s ++ replicate (header_missing (read_header (table_of es ps) s)) 0)).action ≡ p → Enough Numbered s ⊎ Stuck es ps d s
        try-zeros true p = try-ones p (action_needs_more (decide es ps d (s ++ replicate (header_missing (read_header (table_of es ps) s)) 255)).action) refl
        try-zeros false p =
            let m = header_missing (read_header (table_of es ps) s) in
            inl (enough_by (replicate m 0) (zeros_octets m) (length-replicate m 0 ∙ e) (λ r. true≢false (sym r ∙ p)))

    -- some bytes are enough, as many as are missing, or the call is stuck; 12 does not come
    pub enough_or_stuck : Enough Numbered s ⊎ Stuck es ps d s
    enough_or_stuck = waits-or (action_needs_more (decide es ps d s).action) refl
      where
        at_header : NoneFull es ps d s → header_missing (read_header (table_of es ps) s) ≡ Numbered s → SizeBegun s ⊎ CompletesToSize0 (table_of es ps) s → Enough Numbered s ⊎ Stuck es ps d s
        at_header n e (inl b) =
            let some : 0 < length s = some_byte b.n b.some in
            begun_then e (record { none_full = n; some_byte = some }) b
          where
            some_byte : (k : ℕ) → (length (drop k s) ≡ 0 → ⊥) → 0 < length s
            some_byte k f = go (dec_le 1 (length s))
              where
                go : Dec (1 ≤ length s) → 0 < length s
                go (yes h) = h
                go (no g) = absurd (f (length-drop k s ∙ omega arith))
        at_header n e (inr c) = inl (completed_then e c)

        header-or : action_needs_more (decide es ps d s).action ≡ true → (r : Bool) → header_needs_more (read_header (table_of es ps) s) ≡ r → Enough Numbered s ⊎ Stuck es ps d s
        header-or q true m = at_header (waits_at q) (header_number (waits_at q) m) (begun_or_0 (table_of es ps) s m)
        header-or q false m = inl (payload_then (waits_behind es ps d s m q))

        waits-or : (q : Bool) → action_needs_more (decide es ps d s).action ≡ q → Enough Numbered s ⊎ Stuck es ps d s
        waits-or true q = header-or q (header_needs_more (read_header (table_of es ps) s)) refl
        waits-or false q =
            let none : Numbered s ≤ 0 = ltb-false 0 _ (sym (decision_asks es ps d s) ∙ q) in
            inl (nothing_missing Numbered s (omega arith)).enough
