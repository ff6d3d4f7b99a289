-- `named_list::meanings::put_inner_meaning`, by the number. Assumes nothing.
use Rattle.std.proofs.Common.{◌≡◌, arith}
use Rattle.std.proofs.lemmas.Bool.Decides.{nat_tests}
use Rattle.numerals.proofs.Putting.{within}
use Rattle.named_list.specs.Meaning.{inner_meaning}
use Rattle.texts.specs.Ascii.{ascii}
use Rattle.named_list.proofs.meanings.put_inner_meaning.Goals as goal

pub returns-in-11 : goal.returns-in-11
unfolding inner_meaning
returns-in-11 c = rw c.in-11.is (within (omega arith) c.put_text-in-11.ensures)

pub returns-in-12 : goal.returns-in-12
unfolding inner_meaning
returns-in-12 c = rw c.in-12.is (within (omega arith) c.put_text-in-12.ensures)

pub returns-in-13 : goal.returns-in-13
unfolding inner_meaning
returns-in-13 c = rw c.in-13.is (within (omega arith) c.put_text-in-13.ensures)

pub returns-in_default : goal.returns-in_default
unfolding inner_meaning
returns-in_default c =
    let e : inner_meaning c.args.number ≡ ascii "an element closes that is no master" = grind (arith, nat_tests) in
    rw e (within (omega arith) c.put_text-in_default.ensures)
