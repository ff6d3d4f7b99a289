-- What helpers' contracts use: the places that a recovery passes over without a look at the record.
use Rattle.std.specs.Prelude.{ℕ, ◌≤◌, ◌<◌, ◌≡◌, Bool, true, false, List, length, drop, Err, Ok, Result}
use Rattle.table.specs.Table.{Entry}
use Rattle.tag_parse.specs.Header.{read_header}
use Rattle.decoder_decide.specs.GoodViews.{is_id_allowed}
use Rattle.tag_parse.specs.declared.types.ParseError.{ParseError}
use Rattle.tools.specs.declared.status.Status.{Status}
use Rattle.tag_parse.specs.declared.types.TagHeader.{TagHeader}
use Rattle.tools.specs.declared.status.Status.TheVariants as status

-- whether what was read as a header may end a search, by the two settings that step 6 reads: where it is not whole, or
-- passes step 6
abbrev pub may_end : Bool → Bool → Result (Status TagHeader) ParseError → Bool
may_end strict allowed (Ok (status.NeedMore missing)) = true
may_end strict allowed (Err e) = false
may_end strict allowed (Ok (status.Complete h)) = is_id_allowed strict allowed h

-- j is place i of the bytes s or one after it, and at no place from i to j the search may end
pub record PassedTo (t : List Entry) (strict allowed : Bool) (s : List ℕ) (i j : ℕ) : Type 0 where
  pub onward : i ≤ j
  pub within : j ≤ length s
  pub none : (k : ℕ) → i ≤ k → k < j → may_end strict allowed (read_header t (drop k s)) ≡ false

-- and j is the first place where it may, or past the last byte
pub record NextPlace (t : List Entry) (strict allowed : Bool) (s : List ℕ) (i j : ℕ) : Type 0 where
  pub passed : PassedTo t strict allowed s i j
  pub there : j < length s → may_end strict allowed (read_header t (drop j s)) ≡ true
