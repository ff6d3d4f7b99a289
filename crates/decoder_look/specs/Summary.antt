-- What helpers' contracts use: what the tests of a call ask of the record, and the words in which its open masters are
-- lent to them.
use Rattle.std.specs.Prelude.{ℕ, ◌-◌, ◌^◌, min, Bool, cond, ◌&&◌, List, [], ◌∷◌, ◌++◌, map, ◌≡◌, leb, length, drop}
use Rattle.basics.specs.Lists.{every}
use Rattle.spec_util.specs.Walk.{most_open, ShownIds, Shown}
use Rattle.spec_util.specs.declared.types.OpenTag.{OpenTag}
use Rattle.decoder_rules.specs.Record.{farthest, opens, end_of}
use Rattle.decoder_rules.specs.OneCall.{good_open, good_state, step3}
use Rattle.decoder_rules.specs.declared.types.TagDecoder.{TagDecoder}
use Rattle.decoder_look.specs.declared.summary.Summary.{Summary}
use Rattle.decoder_look.specs.declared.summary.HeaderView.{HeaderView}

-- what is shown as an end where none bounds, 2^64 - 1
abbrev pub unbounded : ℕ
unbounded = 2 ^ 64 - 1

-- where a master ends: unbounded where its size is not known, and for an end beyond
unfoldable pub shown_end : OpenTag → ℕ
shown_end m = cond m.known (min (end_of m) unbounded) unbounded

-- the least of the masters' ends
unfoldable pub least_end : List OpenTag → ℕ
least_end [] = unbounded
least_end (m ∷ l) = min (shown_end m) (least_end l)

-- what steps 6 to 11 ask of the record
abbrev pub header_view : TagDecoder → HeaderView
header_view d = record {
  settings = d.settings;
  position = d.position;
  settled = d.settled;
  count = d.open_count;
  least_end = least_end (opens d);
}

-- whether the state is good, where the Ends that wait were found good or not
unfoldable pub good_state_with : Bool → TagDecoder → Bool
good_state_with ends d =
    leb d.open_count most_open && leb d.waiting_count most_open && leb d.position farthest
    && (every (good_open d.position) (opens d) && ends)

-- what steps 1 to 11 ask of the record, where the Ends that wait were found good or not
abbrev pub summary_with : Bool → TagDecoder → Summary
summary_with ends d =
    record { is_state_good = good_state_with ends d; finished = d.finished; waiting_count = d.waiting_count; first_full = step3 d; view = header_view d }

-- what steps 1 to 11 ask of the record
abbrev pub summary : TagDecoder → Summary
summary d = record { is_state_good = good_state d; finished = d.finished; waiting_count = d.waiting_count; first_full = step3 d; view = header_view d }

-- n masters at the front of words that are lent: their IDs, and whether the size of each is known; the words past them
-- are as they were. The lists are those at entry and at exit
pub record ShownInFront (ids ids' : List ℕ) (knowns knowns' : List Bool) (n : ℕ) (l : List OpenTag) : Type 0 where
  pub many : length l ≡ n
  pub ids_left : ids' ≡ map (λ m. m.id) l ++ drop n ids
  pub knowns_left : knowns' ≡ map (λ m. m.known) l ++ drop n knowns

-- ---- a promise that is made of every record, or every list of masters, that the lent words show

-- of every record whose first n masters have these IDs
abbrev pub ForEveryRecordWithIds : List ℕ → ℕ → (TagDecoder → Type 0) → Type 0
ForEveryRecordWithIds ids n P = (d : TagDecoder) → ShownIds ids n (opens d) → P d

-- of every list of n masters with these IDs, of known size or not as shown
abbrev pub ForEveryMasters : List ℕ → List Bool → ℕ → (List OpenTag → Type 0) → Type 0
ForEveryMasters ids knowns n P = (l : List OpenTag) → Shown ids knowns n l → P l

-- of every record that steps 6 to 11 see so, where at most 32 are open
abbrev pub ForEveryRecordSeenAs : HeaderView → List ℕ → List Bool → (TagDecoder → Type 0) → Type 0
ForEveryRecordSeenAs s ids knowns P = (d : TagDecoder) → s ≡ header_view d → Shown ids knowns s.count (opens d) → P d

-- of every record that a whole call sees so
abbrev pub ForEveryRecordSummedUpAs : Summary → List ℕ → List Bool → (TagDecoder → Type 0) → Type 0
ForEveryRecordSummedUpAs k ids knowns P = (d : TagDecoder) → k ≡ summary d → Shown ids knowns (min d.open_count most_open) (opens d) → P d
