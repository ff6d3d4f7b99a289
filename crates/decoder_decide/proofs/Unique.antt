-- No second answer meets a contract of this crate, as the checker reads it. A contract that is made of every record that
-- looks so fixes the answer where there is such a record: for close_or_fault there always is one, and for
-- valid_header, decide_shaped and decide, which are handed what was seen of a record, it is asked for. Assumes nothing.
use Prim.Native.Nat.{ℕ, min, ◌≤◌}
use mathlib.Core.Path.{◌≡◌}
use mathlib.Core.Bool.{false}
use mathlib.Core.List.{List}
use native.Mathlib.Omega.{arith}
use borrow.Fn.Kinds.{Dens}
use contract.Lifetimes.{Lfts}
use lib.ListN.{length, replicate, length-replicate}
use lib.Seq.{take_all}
use Rattle.basics.specs.Unique.{OneAnswer, answer}
use Rattle.basics.proofs.Unique.{one_answer}
use Rattle.spec_util.specs.Walk.{most_open, masters_shown, ShownIds, Shown}
use Rattle.spec_util.proofs.Shown.{shows_those_read}
use Rattle.decoder_rules.specs.Record.{fresh, opens, with_open}
use Rattle.decoder_rules.specs.declared.types.TagDecoder.{TagDecoder}
use Rattle.decoder_look.specs.Summary.{summary, header_view}
use Rattle.decoder_decide.proofs.checks.check_10_to_12.Reads as check-10-to-12
use Rattle.decoder_decide.proofs.checks.check_10_to_12.Kinds as check-10-to-12-kinds
use Rattle.decoder_decide.proofs.checks.check_13.Reads as check-13
use Rattle.decoder_decide.proofs.checks.check_13.Kinds as check-13-kinds
use Rattle.decoder_decide.proofs.checks.check_11_to_13.Reads as check-11-to-13
use Rattle.decoder_decide.proofs.checks.check_11_to_13.Kinds as check-11-to-13-kinds
use Rattle.decoder_decide.proofs.closing.all_masters.Reads as all-masters
use Rattle.decoder_decide.proofs.closing.all_masters.Kinds as all-masters-kinds
use Rattle.decoder_decide.proofs.closing.close_or_fault.Reads as close-or-fault
use Rattle.decoder_decide.proofs.closing.close_or_fault.Kinds as close-or-fault-kinds
use Rattle.decoder_decide.proofs.element.step11.Reads as step11
use Rattle.decoder_decide.proofs.element.step11.Kinds as step11-kinds
use Rattle.decoder_decide.proofs.decide.is_id_allowed.Reads as is-id-allowed
use Rattle.decoder_decide.proofs.decide.is_id_allowed.Kinds as is-id-allowed-kinds
use Rattle.decoder_decide.proofs.decide.decide_shaped.Reads as decide-shaped
use Rattle.decoder_decide.proofs.decide.decide_shaped.Kinds as decide-shaped-kinds
use Rattle.decoder_decide.proofs.decide.decide.Reads as decide
use Rattle.decoder_decide.proofs.decide.decide.Kinds as decide-kinds
use Rattle.decoder_decide.proofs.header.does_settle.Reads as does-settle
use Rattle.decoder_decide.proofs.header.does_settle.Kinds as does-settle-kinds
use Rattle.decoder_decide.proofs.header.settling_note.Reads as settling_note_lem
use Rattle.decoder_decide.proofs.header.settling_note.Kinds as settling-note-kinds
use Rattle.decoder_decide.proofs.header.valid_header.Reads as valid_header_lem
use Rattle.decoder_decide.proofs.header.valid_header.Kinds as valid-header-kinds
use Rattle.decoder_decide.proofs.whole.check_record_10_to_12.Reads as check-record-10-to-12
use Rattle.decoder_decide.proofs.whole.check_record_10_to_12.Kinds as check-record-10-to-12-kinds
use Rattle.decoder_decide.proofs.whole.valid_header_of.Reads as valid-header-of
use Rattle.decoder_decide.proofs.whole.valid_header_of.Kinds as valid-header-of-kinds
use Rattle.decoder_decide.proofs.whole.all_masters_of.Reads as all-masters-of
use Rattle.decoder_decide.proofs.whole.all_masters_of.Kinds as all-masters-of-kinds

-- ---- equations

pub check_10_to_12_one : (κs : Lfts 2) (a : Dens κs check-10-to-12-kinds.ps) → OneAnswer (check-10-to-12.Post κs a) answer
check_10_to_12_one κs a = one_answer (λ r e p. p)

pub check_13_one : (κs : Lfts 0) (a : Dens κs check-13-kinds.ps) → OneAnswer (check-13.Post κs a) answer
check_13_one κs a = one_answer (λ r e p. p)

pub check_11_to_13_one : (κs : Lfts 0) (a : Dens κs check-11-to-13-kinds.ps) → OneAnswer (check-11-to-13.Post κs a) answer
check_11_to_13_one κs a = one_answer (λ r e p. p)

pub all_masters_one : (κs : Lfts 3) (a : Dens κs all-masters-kinds.ps) → OneAnswer (all-masters.Post κs a) answer
all_masters_one κs a = one_answer (λ r e p. p)

pub step11_one : (κs : Lfts 1) (a : Dens κs step11-kinds.ps) → OneAnswer (step11.Post κs a) answer
step11_one κs a = one_answer (λ r e p. p)

pub is_id_allowed_one : (κs : Lfts 0) (a : Dens κs is-id-allowed-kinds.ps) → OneAnswer (is-id-allowed.Post κs a) answer
is_id_allowed_one κs a = one_answer (λ r e p. p)

pub does_settle_one : (κs : Lfts 1) (a : Dens κs does-settle-kinds.ps) → OneAnswer (does-settle.Post κs a) answer
does_settle_one κs a = one_answer (λ r e p. p)

pub settling_note_one : (κs : Lfts 1) (a : Dens κs settling-note-kinds.ps) → OneAnswer (settling_note_lem.Post κs a) answer
settling_note_one κs a = one_answer (λ r e p. p)

pub check_record_10_to_12_one : (κs : Lfts 2) (a : Dens κs check-record-10-to-12-kinds.ps) → OneAnswer (check-record-10-to-12.Post κs a) answer
check_record_10_to_12_one κs a = one_answer (λ r e p. p)

pub valid_header_of_one : (κs : Lfts 2) (a : Dens κs valid-header-of-kinds.ps) → OneAnswer (valid-header-of.Post κs a) answer
valid_header_of_one κs a = one_answer (λ r e p. p)

pub all_masters_of_one : (κs : Lfts 2) (a : Dens κs all-masters-of-kinds.ps) → OneAnswer (all-masters-of.Post κs a) answer
all_masters_of_one κs a = one_answer (λ r e p. p)

-- ---- of every record, or every list of masters, that the lent words show: there is one

-- a record with n masters of these IDs
abbrev with_ids : List ℕ → ℕ → TagDecoder
with_ids ids n = with_open fresh (masters_shown ids (replicate (length ids) false) n) n

has_ids : (ids : List ℕ) (n : ℕ) → n ≤ length ids → ShownIds ids n (opens (with_ids ids n))
unfolding with_open
has_ids ids n h =
    let long : n ≤ length (replicate (length ids) false) = rw length-replicate h in
    let shown : ShownIds ids n (masters_shown ids (replicate (length ids) false) n) = (shows_those_read ids (replicate (length ids) false) n h long).shown_ids in
    rw (take_all n (masters_shown ids (replicate (length ids) false) n) (omega (arith, shown.many))) shown

pub close_or_fault_one : (κs : Lfts 3) (a : Dens κs close-or-fault-kinds.ps) → close-or-fault.Pre κs a → OneAnswer (close-or-fault.Post κs a) answer
close_or_fault_one κs a h = let ids = a.1.1.0.now in let n = a.1.1.1.1.0 in one_answer (λ r e p. p (with_ids ids n) (has_ids ids n h))

-- ---- of every record that was seen so: one is asked for

pub valid_header_one : (κs : Lfts 4) (a : Dens κs valid-header-kinds.ps) (d : TagDecoder) → a.1.1.0 ≡ header_view d
    → Shown a.1.1.1.0.now a.1.1.1.1.0.now a.1.1.0.count (opens d)
    → OneAnswer (valid_header_lem.Post κs a) answer
valid_header_one κs a d seen shown = one_answer (λ r e p. p d seen shown)

pub decide_shaped_one : (κs : Lfts 5) (a : Dens κs decide-shaped-kinds.ps) (d : TagDecoder) → a.1.1.0 ≡ summary d
    → Shown a.1.1.1.0.now a.1.1.1.1.0.now (min d.open_count most_open) (opens d)
    → OneAnswer (decide-shaped.Post κs a) answer
decide_shaped_one κs a d seen shown = one_answer (λ r e p. p d seen shown)

pub decide_one : (κs : Lfts 5) (a : Dens κs decide-kinds.ps) (d : TagDecoder) → a.1.1.0 ≡ summary d
    → Shown a.1.1.1.0.now a.1.1.1.1.0.now (min d.open_count most_open) (opens d)
    → OneAnswer (decide.Post κs a) answer
decide_one κs a d seen shown = one_answer (λ r e p. p d seen shown)
