-- `named_list::words::put_shown`. The invariant: the octets passed are stored as they are shown. The measure is how many
-- are left. Assumes nothing.
use mathlib.Core.Path.{refl}
use native.Mathlib.Omega.{arith}
use borrow.Author.Rules.{rules}
use Rattle.numerals.proofs.Putting.{nothing, within}
use Rattle.named_list.specs.Words.{shown_up_to}
use Rattle.named_list.proofs.Showing.{shown_next}
use Rattle.named_list.proofs.words.put_shown.Goals as goal

pub loop-i-init : goal.loop-i-init
unfolding shown_up_to
loop-i-init c = (omega arith, within (omega arith) (nothing c.args.out.now c.args.at), refl)

pub loop-i-preserved : goal.loop-i-preserved
loop-i-preserved c =
    let s = c.args.text.now in
    (omega arith, shown_next s c.loop-i.i c.octet_before.ensures c.octet_at.ensures c.octet_at-in-loop-i.ensures c.loop-i.invariant.1 c.put_shown_octet-to.ensures, search rules)
