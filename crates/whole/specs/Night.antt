-- When a night is whole, read strictly or as ported: of an input that is all there, by the answers of the end of input,
-- one after another.
use Rattle.std.specs.Prelude.{ℕ, zero, suc, ◌+◌, ◌-◌, ◌*◌, ◌<◌, ◌≡◌, Bool, true, false, cond, not, ◌&&◌, List, [], ◌∷◌, ltb, eqb, length, drop, Err, Ok, Result}
use Rattle.decoder_rules.specs.Moving.{needs_more}
use Rattle.decoder_rules.specs.EndOfInput.{decode_eof}
use Rattle.decoder_rules.specs.declared.types.Answer.{Answer}
use Rattle.decoder_rules.specs.declared.types.Answer.TheVariants as answer
use Rattle.decoder_rules.specs.declared.types.Event.TheVariants as event
use Rattle.decoder_rules.specs.declared.types.TagDecoder.{TagDecoder}
use Rattle.event_list.specs.Reading.{begun}
use Rattle.event_list.specs.Whole.{Answered, answered_by}
use Rattle.whole.specs.Checking.{top_is_sized}
use Rattle.decoder_rules.specs.declared.types.Refusal.{Refusal}

-- ---- the answers to an input

-- whether an answer is an event
abbrev pub is_event : Result Answer Refusal → Bool
is_event (Ok (answer.Event e)) = true
is_event (Ok (answer.NeedMore missing)) = false
is_event (Ok answer.Finished) = false
is_event (Err r) = false

-- at most n answers of the end of input to s: each on the record that the one before left, with what it left of the
-- bytes; an answer that is no event is the last
unfoldable pub read_from : List ℕ → List ℕ → ℕ → TagDecoder → List ℕ → List Answered
read_from es ps zero d s = []
read_from es ps (suc n) d s =
    let r = decode_eof es ps d s in
    let rest = read_from es ps n r.state (drop r.taken s) in
    answered_by r ∷ cond (is_event r.answer) rest []

-- the answers to the input s from a fresh decoder: there are no more than 256 for each byte and 129
abbrev pub answers_to : Bool → List ℕ → List ℕ → List ℕ → List Answered
answers_to strict es ps s = read_from es ps (256 * length s + 129) (begun strict) s

-- ---- what they show

-- the Start of a root at 0: it alone is open after it
abbrev pub is_root_at0 : Result Answer Refusal → TagDecoder → Bool
is_root_at0 (Ok (answer.Event (event.Start x p))) d = eqb p 0 && eqb d.open_count 1
is_root_at0 (Ok (answer.Event (event.End e))) d = false
is_root_at0 (Ok (answer.Event (event.Data x p v))) d = false
is_root_at0 (Ok (answer.NeedMore missing)) d = false
is_root_at0 (Ok answer.Finished) d = false
is_root_at0 (Err r) d = false

-- the first answer is that
unfoldable pub has_front : List Answered → Bool
has_front [] = false
has_front (a ∷ l) = is_root_at0 a.answer a.after

-- a Start has a size; any other answer will do
abbrev pub has_size : Result Answer Refusal → TagDecoder → Bool
has_size (Ok (answer.Event (event.Start x p))) d = top_is_sized d
has_size (Ok (answer.Event (event.End e))) d = true
has_size (Ok (answer.Event (event.Data x p v))) d = true
has_size (Ok (answer.NeedMore missing)) d = true
has_size (Ok answer.Finished) d = true
has_size (Err r) d = true

-- every Start has one
unfoldable pub all_sized : List Answered → Bool
all_sized [] = true
all_sized (a ∷ l) = has_size a.answer a.after && all_sized l

-- how many Starts have not had their End after an answer, where n had not before
abbrev pub starts_left : Result Answer Refusal → ℕ → ℕ
starts_left (Ok (answer.Event (event.Start x p))) n = n + 1
starts_left (Ok (answer.Event (event.End e))) n = n - 1
starts_left (Ok (answer.Event (event.Data x p v))) n = n
starts_left (Ok (answer.NeedMore missing)) n = n
starts_left (Ok answer.Finished) n = n
starts_left (Err r) n = n

-- an End has a Start; any other answer will do
abbrev pub has_start : Result Answer Refusal → ℕ → Bool
has_start (Ok (answer.Event (event.Start x p))) n = true
has_start (Ok (answer.Event (event.End e))) n = ltb 0 n
has_start (Ok (answer.Event (event.Data x p v))) n = true
has_start (Ok (answer.NeedMore missing)) n = true
has_start (Ok answer.Finished) n = true
has_start (Err r) n = true

-- every End has one, with n Starts that have not had theirs
unfoldable pub all_started : ℕ → List Answered → Bool
all_started n [] = true
all_started n (a ∷ l) = has_start a.answer n && all_started (starts_left a.answer n) l

-- whether an answer is the finish
abbrev pub is_finish : Result Answer Refusal → Bool
is_finish (Ok (answer.Event e)) = false
is_finish (Ok (answer.NeedMore missing)) = false
is_finish (Ok answer.Finished) = true
is_finish (Err r) = false

-- the last answer is the finish
unfoldable pub finishes : List Answered → Bool
finishes [] = false
finishes (a ∷ []) = is_finish a.answer
finishes (a ∷ b ∷ l) = finishes (b ∷ l)

-- whether an answer is an element with nothing open around it
abbrev pub is_record : Result Answer Refusal → TagDecoder → Bool
is_record (Ok (answer.Event (event.Start x p))) d = eqb d.open_count 1
is_record (Ok (answer.Event (event.End e))) d = false
is_record (Ok (answer.Event (event.Data x p v))) d = eqb d.open_count 0
is_record (Ok (answer.NeedMore missing)) d = false
is_record (Ok answer.Finished) d = false
is_record (Err r) d = false

-- how many such elements there are
unfoldable pub records : List Answered → ℕ
records [] = 0
records (a ∷ l) = cond (is_record a.answer a.after) 1 0 + records l

-- whether an answer is the Start of a master directly in a root
abbrev pub is_feed : Result Answer Refusal → TagDecoder → Bool
is_feed (Ok (answer.Event (event.Start x p))) d = eqb d.open_count 2
is_feed (Ok (answer.Event (event.End e))) d = false
is_feed (Ok (answer.Event (event.Data x p v))) d = false
is_feed (Ok (answer.NeedMore missing)) d = false
is_feed (Ok answer.Finished) d = false
is_feed (Err r) d = false

-- how many such masters there are
unfoldable pub feeds : List Answered → ℕ
feeds [] = 0
feeds (a ∷ l) = cond (is_feed a.answer a.after) 1 0 + feeds l

-- no answer asks for more: no element is larger than the buffer
unfoldable pub none_asks : List Answered → Bool
none_asks [] = true
none_asks (a ∷ l) = not (needs_more a.answer) && none_asks l

-- ---- whole

-- a night that is whole: it is not empty; it begins with the Start of a root at 0; every Start has a size; no End is
-- without a Start; and it ends with the finish
pub record IsWhole (strict : Bool) (es ps s : List ℕ) : Type 0 where
  pub not_empty : 0 < length s
  pub front : has_front (answers_to strict es ps s) ≡ true
  pub sizes : all_sized (answers_to strict es ps s) ≡ true
  pub starts : all_started 0 (answers_to strict es ps s) ≡ true
  pub finish : finishes (answers_to strict es ps s) ≡ true

-- it is whole and is one record, with n feeds and m bytes
pub record IsOneWhole (strict : Bool) (es ps s : List ℕ) (n m : ℕ) : Type 0 where
  pub whole : IsWhole strict es ps s
  pub one : records (answers_to strict es ps s) ≡ 1
  pub feed_count : n ≡ feeds (answers_to strict es ps s)
  pub byte_count : m ≡ length s
