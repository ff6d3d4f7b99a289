-- No second answer meets the contract of a public function, as the checker reads it: the answer and every lent byte are
-- fixed, whatever the exit. Assumes nothing.
use mathlib.Core.Path.{ap₂}
use borrow.Fn.Kinds.{Dens}
use contract.Lifetimes.{Lfts}
use Rattle.basics.specs.Unique.{OneAnswer, answer, answer_and}
use Rattle.basics.proofs.Unique.{one_answer}
use Rattle.event_list.proofs.lines.put_line.Reads as put-line
use Rattle.event_list.proofs.lines.put_line.Kinds as put-line-kinds
use Rattle.event_list.proofs.listing.start.Reads as start
use Rattle.event_list.proofs.listing.start.Kinds as start-kinds
use Rattle.event_list.proofs.listing.call_once.Reads as call-once
use Rattle.event_list.proofs.listing.call_once.Kinds as call-once-kinds
use Rattle.event_list.proofs.listing.move_unread_to_front.Reads as move-unread-to-front
use Rattle.event_list.proofs.listing.move_unread_to_front.Kinds as move-unread-to-front-kinds
use Rattle.event_list.proofs.listing.after_read.Reads as after_read
use Rattle.event_list.proofs.listing.after_read.Kinds as after-read-kinds

pub start_one : (κs : Lfts 0) (a : Dens κs start-kinds.ps) → OneAnswer (start.Post κs a) answer
start_one κs a = one_answer (λ r e p. p)

pub call_once_one : (κs : Lfts 1) (a : Dens κs call-once-kinds.ps) → OneAnswer (call-once.Post κs a) answer
call_once_one κs a = one_answer (λ r e p. p)

pub after_read_one : (κs : Lfts 0) (a : Dens κs after-read-kinds.ps) → OneAnswer (after_read.Post κs a) answer
after_read_one κs a = one_answer (λ r e p. p)

pub put_line_one : (κs : Lfts 1) (a : Dens κs put-line-kinds.ps) → OneAnswer (put-line.Post κs a) (answer_and (λ e. e.1.1.0.now))
put_line_one κs a = one_answer (λ r e p. ap₂ (λ x b. (x, b)) p.0.answer p.0.bytes)

pub move-unread_to_front_one : (κs : Lfts 1) (a : Dens κs move-unread-to-front-kinds.ps) → OneAnswer (move-unread-to-front.Post κs a) (answer_and (λ e. e.0.now))
move-unread_to_front_one κs a = one_answer (λ r e p. ap₂ (λ x b. (x, b)) p.0.answer p.0.bytes)
