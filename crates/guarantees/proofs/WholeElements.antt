-- A record that is read in order to the finish is a row of whole elements of known size, where the child-size test was
-- never off and every Start was of known size: each element at the top begins where the one before it ended, and the
-- finish comes at the end of the last, with all of the record taken. Assumes nothing.
use Prim.Native.Nat.{ℕ}
use mathlib.Core.Path.{◌≡◌, sym, ap, ◌∙◌, subst}
use mathlib.Core.Bool.{Bool, true}
use mathlib.Core.List.{List, [], ◌∷◌, ◌++◌}
use lib.ListN.{length, drop}
use Rattle.basics.proofs.Bools.{both, absurd_eq}
use Rattle.tools.specs.Bytes.{Octets}
use Rattle.table.specs.Table.{Entry, table_of}
use Rattle.tag_parse.specs.Header.{read_header}
use Rattle.tag_parse.specs.declared.types.TagHeader.{TagHeader}
use Rattle.tag_parse.proofs.Headers.{header_local}
use Rattle.decoder_rules.specs.declared.types.Answer.TheVariants as answer
use Rattle.decoder_rules.specs.declared.types.Event.TheVariants as event
use Rattle.guarantees.specs.Calls.{Call, lent, Response, answered, searched, silent, record_after, history, Lent}
use Rattle.guarantees.specs.History.{Started, declared_end, header_end, outermost_end, test_after, child_test_never_off}
use Rattle.guarantees.specs.Promises.{Runs, last_response, Answers, open_at, left_at, position_at}
use Rattle.guarantees.specs.CutRecords.{InOrder, RowTo, front, after, every_known, top_by, last_top_end}
use Rattle.guarantees.proofs.AnyCalls.{ResponseFacts, promised_after}
use Rattle.guarantees.proofs.InOrder.{lends_front, in_order_no_recovery, finish_reads_all}
use Rattle.guarantees.proofs.TopLevel.{TopAt, outside, inside, known_before, top_at, finish_at_the_end}
use Rattle.std.specs.Prelude.{Err, Ok, Option, Some}
use Rattle.tools.specs.declared.status.Status.TheVariants as status

-- ---- an element at the top

-- its header is what the record says from there on, of which the call lent the front b
pub header_longer : (t : List Entry) (s b rest : List ℕ) (p : ℕ) (h : TagHeader) → Octets b → b ++ rest ≡ drop p s → read_header t b ≡ Ok (status.Complete h) → read_header t (drop p s) ≡ Ok (status.Complete h)
header_longer t s b rest p h byte e r = ap (read_header t) (sym e) ∙ header_local t b rest (byte 0) (rw r) ∙ r

-- and so is its end
pub declared_longer : (t : List Entry) (s b rest : List ℕ) (p : ℕ) (h : TagHeader) → Octets b → b ++ rest ≡ drop p s → read_header t b ≡ Ok (status.Complete h) → declared_end t p (drop p s) ≡ declared_end t p b
unfolding declared_end
declared_longer t s b rest p h byte e r = ap (header_end p) (header_longer t s b rest p h byte e r ∙ sym r)

-- where nothing is open the position is the end of the element before
none_open : (g : Option ℕ) (p : ℕ) → TopAt g [] p → g ≡ Some p
unfolding outermost_end
none_open g p (outside y q) = q
none_open g p (inside f q r h) = let z : ◌≡◌ {A = ℕ} 0 1 = cc in absurd_eq z

-- what any call tells
told_row : (t : List Entry) (s b rest : List ℕ) (off : Bool) (l : List Started) (left : List ℕ) (p : ℕ) (g : Option ℕ) (x : Response) → Octets b → b ++ rest ≡ drop p s → ResponseFacts t off b l left p x
    → TopAt g l p → ((f : ℕ) → g ≡ Some f → RowTo t s f) → (f : ℕ) → top_by t b l x g ≡ Some f → RowTo t s f
told_row t s b rest off [] left p g (answered (Ok (answer.Event (event.Start y o))) n) byte lies k at row f q =
    after p f (row p (none_open g p at)) (declared_longer t s b rest p k.1.heads.its byte lies k.1.heads.is_read ∙ subst (λ (z : ℕ). declared_end t z b ≡ Some f) k.1.offset q)
told_row t s b rest off (m ∷ l) left p g (answered (Ok (answer.Event (event.Start y o))) n) byte lies k at row f q = row f q
told_row t s b rest off [] left p g (answered (Ok (answer.Event (event.End end))) n) byte lies k at row f q = row f q
told_row t s b rest off (m ∷ l) left p g (answered (Ok (answer.Event (event.End end))) n) byte lies k at row f q = row f q
told_row t s b rest off [] left p g (answered (Ok (answer.Event (event.Data y o v))) n) byte lies k at row f q =
    after p f (row p (none_open g p at)) (declared_longer t s b rest p k.1.heads.its byte lies k.1.heads.is_read ∙ subst (λ (z : ℕ). declared_end t z b ≡ Some f) k.1.offset q)
told_row t s b rest off (m ∷ l) left p g (answered (Ok (answer.Event (event.Data y o v))) n) byte lies k at row f q = row f q
told_row t s b rest off l left p g (answered (Ok (answer.NeedMore missing)) n) byte lies k at row f q = row f q
told_row t s b rest off l left p g (answered (Ok answer.Finished) n) byte lies k at row f q = row f q
told_row t s b rest off l left p g (answered (Err r) n) byte lies k at row f q = row f q
told_row t s b rest off l left p g (searched a n) byte lies k at row f q = row f q
told_row t s b rest off l left p g silent byte lies k at row f q = row f q

-- ---- any calls

module _ (es ps s : List ℕ) where
  abbrev t : List Entry
  t = table_of es ps

  row_to : (cs : List Call) → Runs es ps cs → InOrder es ps s cs → child_test_never_off cs ≡ true → every_known t (history es ps cs) ≡ true → (f : ℕ) → last_top_end t (history es ps cs) ≡ Some f → RowTo t s f
  unfolding Lent InOrder history last_top_end child_test_never_off
  row_to [] run i on k f q = let z : 0 ≡ f = cc in subst (RowTo t s) z front
  row_to (c ∷ cs) run i on k f q =
      let before : Runs es ps cs = record { checked = run.checked; octets = run.octets.1 } in
      let b = both (test_after c true) (child_test_never_off cs) on in
      let known = known_before es ps cs c k in
      let v = lends_front s (position_at es ps cs) c i.0 in
      told_row t s (lent c) v.0 (record_after es ps cs).settings.allow_oversized (open_at es ps cs) (left_at es ps cs c) (position_at es ps cs) (last_top_end t (history es ps cs)) (last_response es ps cs c) run.octets.0 v.1
      (promised_after es ps cs c run).promised (top_at es ps cs before b.right (in_order_no_recovery es ps s cs i.1) known) (row_to cs before i.1 b.right known) f q

  -- a record that is read in order to the finish is a row of whole elements
  pub finished_is_row : (cs : List Call) (c : Call) → Runs es ps (c ∷ cs) → InOrder es ps s (c ∷ cs) → child_test_never_off cs ≡ true → every_known t (history es ps cs) ≡ true
      → Answers es ps cs c (Ok answer.Finished) → RowTo t s (length s)
  unfolding Lent InOrder
  finished_is_row cs c run i on k a =
      row_to cs (record { checked = run.checked; octets = run.octets.1 }) i.1 on k (length s)
      (finish_at_the_end es ps cs c run on (in_order_no_recovery es ps s cs i.1) k a ∙ ap Some (finish_reads_all es ps s cs c run i a))
