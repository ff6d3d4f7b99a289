-- An element of a written document that comes next, where no open master is full: the header is read, steps 6 to 10
-- pass, and step 11 gives a Start or a Data, which counts in the innermost open master. Assumes nothing.
use Prim.Native.Nat.{ℕ, ◌+◌, ◌^◌, ◌≤◌, ◌<◌}
use mathlib.Core.Path.{◌≡◌, refl, sym, ap, subst, ◌∙◌}
use mathlib.Core.Bool.{Bool, true, false, not, ◌||◌, false≢true, true≢false}
use mathlib.Core.List.{List, [], ◌∷◌, ◌++◌, reverse}
use mathlib.Core.Logic.{⊎_elim}
use native.Mathlib.Omega.{arith}
use borrow.Author.Tests.{le-leb, lt-leb, le-ltb}
use lib.ListN.{length, take, drop, set, length-append}
use lib.Seq.{take_at, drop_at}
use Rattle.basics.specs.Lists.{every, first_index}
use Rattle.basics.proofs.ArrayOf32.{filled_more}
use Rattle.table.specs.Check.{only_ids}
use Rattle.table.specs.Shape.{good_shape}
use Rattle.table.specs.Table.{Entry, table_of, data_type_of, path_of, range_of, is_master, is_typed}
use Rattle.table.proofs.Entries.{path_in}
use Rattle.spec_util.specs.Walk.{no_tag, ended_tops, validate_tag_path}
use Rattle.spec_util.specs.declared.types.OpenTag.{OpenTag}
use Rattle.tag_parse.specs.Header.{too_long}
use Rattle.tag_parse.specs.Payload.{value_of}
use Rattle.tag_parse.specs.declared.types.EBMLSize.TheVariants.{Known}
use Rattle.tag_parse.specs.declared.types.TagHeader.{TagHeader}
use Rattle.tag_parse.specs.declared.types.TagValue.{TagValue}
use Rattle.decoder_rules.specs.Moving.{gives, master_at, move, apply, decode}
use Rattle.decoder_rules.specs.OneCall.{is_full, step3, good_form, step6, step7, noted, step8, reaches, fits_inside, step9, step10}
use Rattle.decoder_rules.specs.Record.{opens, end_of, with_open, with_notes, settled_to, opened, counted}
use Rattle.decoder_rules.specs.declared.types.Action.{Action}
use Rattle.decoder_rules.specs.declared.types.Answer.TheVariants as answer
use Rattle.decoder_rules.specs.declared.types.Event.TheVariants as event
use Rattle.decoder_rules.specs.declared.types.TagDecoder.{TagDecoder}
use Rattle.decoder_rules.proofs.Exits.{AtElement, HeaderExit, starts as starts-exit, holds as holds-exit, AtHeader, on_header, exit_decides}
use Rattle.tag_writer.specs.Document.{header_bytes}
use Rattle.tag_writer.specs.Write.{reads_back, goes_in}
use Rattle.tag_writer.proofs.Children.{once_more, more_length, more_filled}
use Rattle.tag_writer.proofs.HeaderBack.{head_of, header_back}
use Rattle.tag_writer.proofs.Lengths.{header_some}
use Rattle.tag_writer.proofs.Placing.{ids_of, every_known, no_tops, placed, at_top}
use Rattle.tag_writer.proofs.Standing.{made_same, standing, stands_opens, All, all_every, Reaching, first_passes, first_none}
use Rattle.std.specs.Prelude.{Ok, Result, Some}
use Rattle.decoder_rules.specs.declared.types.DecodeError.{DecodeError}

-- an element of ID x with n bytes in it comes at place p, in these open masters, with what is left after its header
pub record Comes (strict : Bool) (t : List Entry) (b : Bool) (p : ℕ) (st : List OpenTag) (x n : ℕ) (rest : List ℕ) : Type 0 where
  pub back : reads_back x ≡ true
  pub form : good_form strict x ≡ true
  pub goes : goes_in t (ids_of st) x ≡ true
  pub typed : is_typed (data_type_of t x) ≡ true
  pub short : too_long (data_type_of t x) n ≡ false
  pub size : n ≤ 4_000_000_000
  pub few : length st < 32
  pub reach : All (Reaching t p (p + (length (header_bytes x n) + n))) st
  pub near : p + length (header_bytes x n ++ rest) ≤ 2 ^ 62
  pub root : b ≡ false → st ≡ []

-- ---- the tests, one by one

any_last : (a b c : Bool) {d : Bool} → d ≡ true → (a || b || c || d) ≡ true
any_last true b c e = refl
any_last false true c e = refl
any_last false false true e = refl
any_last false false false e = e

not_full : (t : List Entry) (p lim : ℕ) → p < lim → (m : OpenTag) → Reaching t p lim m → not (is_full p m) ≡ true
unfolding is_full
not_full t p lim h m r =
    let l : p < end_of m = omega (arith, r.reach) in
    rw (r.known, lt-leb _ _ l)

-- no master that reaches beyond the place is full
pub none_full : (t : List Entry) (p lim : ℕ) (st : List OpenTag) → p < lim → All (Reaching t p lim) st → every (λ (m : OpenTag). not (is_full p m)) st ≡ true
none_full t p lim st h a = all_every (λ (m : OpenTag). not (is_full p m)) (not_full t p lim h) st a

reaches_to_lem : (t : List Entry) (p lim : ℕ) (m : OpenTag) → Reaching t p lim m → reaches lim m ≡ true
unfolding reaches
reaches_to_lem t p lim m r = rw (r.known, le-leb _ _ r.reach)

-- 8 and 9 pass, and 10 closes nothing
module _ (strict : Bool) (t : List Entry) (b : Bool) (p : ℕ) (st : List OpenTag) (x n : ℕ) (rest : List ℕ) (c : Comes strict t b p st x n rest) where
  abbrev here : TagDecoder
  here = standing strict b p st []

  are_open : opens here ≡ st
  are_open = stands_opens strict b p st []

  all_known : every_known st ≡ true
  all_known = all_every (λ (m : OpenTag). m.known) (λ m r. r.known) st c.reach

  path_passes : step8 t here (head_of t x n) ≡ true
  unfolding step8
  path_passes =
      let path : validate_tag_path strict t x (opens here) ≡ true = rw are_open (placed strict t x st all_known c.goes) in
      any_last (not (is_typed (data_type_of t x))) (not b) false path

  size_passes : step9 here (length (header_bytes x n)) (Known n) ≡ Ok tt
  unfolding step9 fits_inside
  size_passes =
      let end = p + (length (header_bytes x n) + n) in
      let in_all : every (reaches end) (opens here) ≡ true = rw are_open (all_every _ (reaches_to_lem t p end) st c.reach) in
      rw (in_all, le-ltb 4_000_000_000 n c.size)

  none_closes : length st ≤ step10 t here x
  none_closes =
      let e : ended_tops strict t x (reverse (opens here)) ≡ 0 = rw are_open (no_tops strict t x st all_known) in
      omega (arith, e)

  -- so the element is reached
  pub at_element : AtElement t here (head_of t x n)
  at_element = record { valid = record { path = path_passes; size = size_passes }; none_ended = none_closes }

-- ---- 7: the note. It leaves the masters as they are: where nothing has settled none is open, and a path of IDs that
-- goes there is the empty one

-- what the note leaves
pub record Noted (strict : Bool) (ps : List ℕ) (t : List Entry) (b : Bool) (p : ℕ) (st : List OpenTag) (x n : ℕ) : Type 0 where
  pub settled : Bool
  pub is : noted ps (standing strict b p st []) (step7 t (standing strict b p st []) (head_of t x n)) ≡ standing strict settled p st []
  pub root : settled ≡ false → st ≡ []
  pub by_ids : only_ids (path_of t x) ≡ true → settled ≡ true

module _ (strict : Bool) (es ps : List ℕ) (p : ℕ) (x n : ℕ) where
  abbrev table : List Entry
  table = table_of es ps

  noted_first : is_typed (data_type_of table x) ≡ true → goes_in table [] x ≡ true → Noted strict ps table false p [] x n
  unfolding noted settled_to with_open with_notes only_ids every
  noted_first typed goes = ⊎_elim at-root elsewhere (at_top table x goes)
    where
      at-root : path_of table x ≡ [] → Noted strict ps table false p [] x n
      at-root e =
          let d = standing strict false p [] [] in
          let only : only_ids (path_of table x) ≡ true = ap only_ids e in
          let note : step7 table d (head_of table x n) ≡ Some (range_of table x) = rw (typed, only) in
          record {
            settled = true;
            is = ap (noted ps d) note ∙ ap (settled_to d) (path_in es ps x ∙ e);
            root = λ q. absurd (true≢false q);
            by_ids = λ q. refl;
          }

      elsewhere : only_ids (path_of table x) ≡ false → Noted strict ps table false p [] x n
      elsewhere e = record { settled = false; is = rw (typed, e); root = λ q. refl; by_ids = λ q. absurd (false≢true (sym e ∙ q)) }

  note_stands : (b : Bool) (st : List OpenTag) → (b ≡ false → st ≡ []) → is_typed (data_type_of table x) ≡ true → goes_in table (ids_of st) x ≡ true
      → Noted strict ps table b p st x n
  unfolding noted
  note_stands true st root typed goes = record { settled = true; is = refl; root = λ q. absurd (true≢false q); by_ids = λ q. refl }
  note_stands false [] root typed goes = noted_first typed goes
  note_stands false (m ∷ st) root typed goes = absurd (some m st (root refl))
    where
      some : (m : OpenTag) (st : List OpenTag) → ◌≡◌ {A = List OpenTag} (m ∷ st) [] → ⊥
      some m st e = omega (arith, ap length e)

-- ---- the call

module _ (es ps : List ℕ) (shape : good_shape es ps ≡ true) (strict b : Bool) (p : ℕ) (st : List OpenTag) (x n : ℕ) (rest : List ℕ)
    (c : Comes strict (table_of es ps) b p st x n rest) where
  abbrev t : List Entry
  t = table_of es ps

  abbrev H : List ℕ
  H = header_bytes x n

  abbrev bytes : List ℕ
  bytes = H ++ rest

  abbrev h : TagHeader
  h = head_of t x n

  abbrev before_call : TagDecoder
  before_call = standing strict b p st []

  -- the note of this header
  pub the_note : Noted strict ps t b p st x n
  the_note = note_stands strict es ps p x n b st c.root c.typed c.goes

  abbrev with_note_lem : TagDecoder
  with_note_lem = standing strict the_note.settled p st []

  after_note : Comes strict t the_note.settled p st x n rest
  after_note = record {
    back = c.back;
    form = c.form;
    goes = c.goes;
    typed = c.typed;
    short = c.short;
    size = c.size;
    few = c.few;
    reach = c.reach;
    near = c.near;
    root = the_note.root;
  }

  at_header : AtHeader es ps before_call bytes h
  unfolding every
  at_header =
      let lim = p + (length H + n) in
      let l : p < lim = omega (arith, header_some x n) in
      let three : step3 before_call ≡ length st = ap (first_index (is_full p)) (stands_opens strict b p st []) ∙ first_none (is_full p) st (none_full t p lim st l c.reach) in
      let first = first_passes es ps shape strict b p lim bytes st [] c.reach refl (omega (arith, c.few)) (omega arith) c.near in
      record {
        at_bytes = record {
          none_full = record { reading = record { admitted = first; none_waiting = refl; unfinished = refl }; none_full = omega (arith, three) };
          some_byte = omega (arith, header_some x n, length-append H rest);
        };
        read = header_back t x n rest c.back (omega (arith, c.size)) c.short;
      }

  -- the call is the move of what 8 to 11 decide on the record with the note
  comes : {a : Result Action DecodeError} → HeaderExit t with_note_lem h bytes a → decode es ps before_call bytes ≡ move with_note_lem a
  unfolding apply
  comes {a} exit =
      let six : step6 before_call h ≡ true = rw (c.form, c.typed) in
      let noted-exit = subst (λ (d : TagDecoder). HeaderExit t d h bytes a) (sym the_note.is) exit in
      ap (apply ps before_call) (sym (exit_decides es ps before_call bytes (on_header h at_header six noted-exit)))
      ∙ ap (λ (d : TagDecoder). move d a) the_note.is

  element : AtElement t with_note_lem h
  element = at_element strict t the_note.settled p st x n rest after_note

  -- ---- 11

  -- a master
  pub starts : is_master (data_type_of t x) ≡ true
      → decode es ps before_call bytes
      ≡ gives (Ok (answer.Event (event.Start x p))) (length H)
      (standing strict the_note.settled (p + length H) (once_more st ++ (master_at x (Known n) p (length H) ∷ [])) [])
  unfolding move opened counted with_open with_notes
  starts master =
      let m = master_at x (Known n) p (length H) in
      let o = ap (λ (l : List OpenTag). set l (length st) m) (more_filled st) ∙ filled_more no_tag (once_more st) (length st) m (more_length st) c.few in
      let k : length st + 1 ≡ length (once_more st ++ (m ∷ [])) = omega (arith, length-append (once_more st) (m ∷ []), more_length st) in
      comes (starts-exit element master c.few)
      ∙ ap (gives (Ok (answer.Event (event.Start x p))) (length H)) (made_same strict the_note.settled (p + length H) o k refl refl)

  -- a value, whose payload is the n bytes that come next
  module _ (data-bytes more : List ℕ) (v : TagValue) (count : length data-bytes ≡ n) (is-rest : rest ≡ data-bytes ++ more) (no_master_lem : is_master (data_type_of t x) ≡ false)
      (read : value_of strict (data_type_of t x) data-bytes (record { begin = p + length (header_bytes x n); end = p + (length (header_bytes x n) + n) }) ≡ Ok v) where
    -- is the Data
    pub holds : decode es ps before_call bytes
        ≡ gives (Ok (answer.Event (event.Data x p v))) (length H + n) (standing strict the_note.settled (p + (length H + n)) (once_more st) [])
    unfolding move counted with_open with_notes
    holds =
        let one : drop (length H) (H ++ rest) ≡ rest = drop_at H rest (length H) refl in
        let two : take n rest ≡ data-bytes = ap (take n) is-rest ∙ take_at data-bytes more n count in
        let long : length H + n ≤ length (H ++ rest) = omega (arith, length-append H rest, ap length is-rest, length-append data-bytes more) in
        comes (holds-exit n v (record { at = element; no_master_lem = no_master_lem; known = refl }) long (rw (one, two, read)))
        ∙ ap (gives (Ok (answer.Event (event.Data x p v))) (length H + n)) (made_same strict the_note.settled (p + (length H + n)) (more_filled st) (sym (more_length st)) refl refl)
