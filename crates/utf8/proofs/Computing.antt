-- One name for what a worked example of text computes with: a definition unfolds what its own line names, so
-- `unfolding text_computes` opens all of it. Assumes nothing.
use Rattle.utf8.specs.Rfc3629.{fits, rows, first_fit, text_after}

unfoldable pub text_computes : Unit {0}
unfolding fits rows first_fit text_after
text_computes = tt
