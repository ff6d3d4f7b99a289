-- One name for what a worked example of any calls computes with: a definition unfolds what its own line names, so
-- `unfolding history_computes` opens all of it. Assumes nothing.
use Rattle.decoder_rules.proofs.Computing.{rules_compute}
use Rattle.guarantees.specs.Calls.{record_after, history}
use Rattle.guarantees.specs.Settling.{is_strict_after, implied_by, has_settled}
use Rattle.guarantees.specs.History.{declared_end, later, starts_open, parents_left, position}
use Rattle.guarantees.specs.Counts.{child_counts, children_since, total}
use Rattle.guarantees.specs.Skipped.{taken_by_events, skipped, known_ends}

unfoldable pub history_computes : Unit {0}
unfolding rules_compute record_after history is_strict_after implied_by has_settled declared_end later starts_open parents_left position child_counts children_since total taken_by_events skipped known_ends
history_computes = tt
