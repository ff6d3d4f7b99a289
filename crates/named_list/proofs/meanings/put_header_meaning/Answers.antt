-- `named_list::meanings::put_header_meaning`, by the number. Assumes nothing.
use Rattle.std.proofs.Common.{◌≡◌, arith}
use Rattle.std.proofs.lemmas.Bool.Decides.{nat_tests}
use Rattle.numerals.proofs.Putting.{within}
use Rattle.named_list.specs.Meaning.{header_meaning}
use Rattle.texts.specs.Ascii.{ascii}
use Rattle.named_list.proofs.meanings.put_header_meaning.Goals as goal

pub returns-in-14 : goal.returns-in-14
unfolding header_meaning
returns-in-14 c = rw c.in-14.is (within (omega arith) c.put_text.ensures)

pub returns-in_default : goal.returns-in_default
unfolding header_meaning
returns-in_default c =
    let e : header_meaning c.args.number ≡ ascii "the element ends past the end of its master" = grind (arith, nat_tests) in
    rw e (within (omega arith) c.put_text-in_default.ensures)
