-- `tag_decoder::recovery::try_recover`: the first refusals, or the search. Assumes nothing.
use mathlib.Core.Path.{◌≡◌, sym, ◌∙◌, subst}
use Rattle.decoder_rules.specs.Recovery.{try_recover}
use Rattle.decoder_rules.proofs.GoodState.{is_good_state, Passed1, passed12}
use lib.ListN.{length}
use Rattle.tag_decoder.proofs.Recovering.{EndWell, end_well}
use Rattle.tag_decoder.proofs.recovery.try_recover.Goals as goal
use Rattle.std.specs.Prelude.{Ok}

pub end_of_search-requires : goal.end_of_search-requires
end_of_search-requires c =
    let passed : let a = c.args in c.check_record_10_to_12.result ≡ Ok tt → Passed1 a.entries.now a.parts.now a.d (length a.input.now) = λ e. passed12 _ _ _ _ (sym c.check_record_10_to_12.ensures ∙ e) in
    let p = passed c.in-Ok.is in
    (is_good_state _ p.good, p.shape, p.near)

pub ending-requires : goal.ending-requires
ending-requires c =
    let passed : let a = c.args in c.check_record_10_to_12.result ≡ Ok tt → Passed1 a.entries.now a.parts.now a.d (length a.input.now) = λ e. passed12 _ _ _ _ (sym c.check_record_10_to_12.ensures ∙ e) in
    let p = passed c.in-Ok.is in
    let w = subst (EndWell c.args.d _) (sym c.end_of_search.ensures) (end_well _ _ p.shape _ _ p.good p.near) in
    (is_good_state _ w.good, w.later)

pub returns-in-Ok : goal.returns-in-Ok
unfolding try_recover
returns-in-Ok c =
    c.ending.ensures ∙ rw c.end_of_search.ensures (rw (← c.check_record_10_to_12.ensures, c.in-Ok.is))

pub returns-in-Err : goal.returns-in-Err
unfolding try_recover
returns-in-Err c = rw (← c.check_record_10_to_12.ensures, c.in-Err.is)
