-- Worked examples over document 01's bench table, over a table with Globals and over tables on which the strict mode
-- refuses what the port accepts, computed. Assumes nothing.
use Prim.Native.Nat.{ℕ}
use mathlib.Core.Path.{◌≡◌, refl}
use mathlib.Core.Bool.{Bool, true, false}
use mathlib.Core.List.{List, [], ◌∷◌}
use Rattle.spec_util.proofs.Computing.{walks_compute}
use Rattle.table.specs.Table.{Entry, table_of, path_of}
use Rattle.table.specs.Check.{checked_number, check_table}
use Rattle.table.specs.BenchTable.{bench}
use Rattle.spec_util.specs.Ended.{is_ended_by}
use Rattle.spec_util.specs.Walk.{walk_from, left_open, validate_tag_path}
use Rattle.spec_util.specs.declared.types.OpenTag.{OpenTag}

-- an open master of known or Unknown size
abbrev open_as : Bool → ℕ → OpenTag
open_as known id = record { id = id; known = known; size = 0; tag_start = 0; data_start = 0; count = 0 }

abbrev k : ℕ → OpenTag
k id = open_as true id

abbrev u : ℕ → OpenTag
u id = open_as false id

-- 81 and 82 are Masters; 83 has 1 to 2 masters and then 82 above it, 84 at least 2, 85 at most 1; 86 has two Globals
-- side by side
abbrev pub globals : List Entry
globals =
    table_of (0x81 ∷ 0 ∷ 0 ∷ 0 ∷ 0x82 ∷ 0 ∷ 0 ∷ 0 ∷ 0x83 ∷ 1 ∷ 0 ∷ 2 ∷ 0x84 ∷ 1 ∷ 2 ∷ 1 ∷ 0x85 ∷ 1 ∷ 3 ∷ 1 ∷ 0x86 ∷ 4 ∷ 4 ∷ 2 ∷ [])
    (1 ∷ 2 ∷ 3 ∷ 0 ∷ 0x82 ∷ 0 ∷ 1 ∷ 3 ∷ 0 ∷ 1 ∷ 0 ∷ 2 ∷ 1 ∷ 0 ∷ 0 ∷ 1 ∷ 0 ∷ 0 ∷ [])

pub record Ended : Type 0 where
  pub by_parent : is_ended_by bench 0xA2 0x4E01 ≡ true
  pub by_sibling : is_ended_by bench 0xA2 0xA3 ≡ true
  pub by_itself : is_ended_by bench 0xA1 0xA1 ≡ true
  pub by_root : is_ended_by bench 0xA1 0x4E01 ≡ true
  pub not_by_child : is_ended_by bench 0x4E01 0xA1 ≡ false
  -- D10: an ID without type has the empty path, as Session has
  pub by_untyped : is_ended_by bench 0x4E01 0x81 ≡ true
  pub not_by_untyped : is_ended_by bench 0xA1 0x81 ≡ false

pub ended : Ended
unfolding walks_compute
ended = record {
  by_parent = refl;
  by_sibling = refl;
  by_itself = refl;
  by_root = refl;
  not_by_child = refl;
  by_untyped = refl;
  not_by_untyped = refl;
}

pub record Walked : Type 0 where
  pub amount_in_feed : validate_tag_path false bench 0xA2 (k 0x4E01 ∷ k 0xA1 ∷ []) ≡ true
  pub amount_in_session : validate_tag_path false bench 0xA2 (k 0x4E01 ∷ []) ≡ false
  pub amount_in_amount : validate_tag_path false bench 0xA2 (k 0x4E01 ∷ k 0xA1 ∷ k 0xA2 ∷ []) ≡ false
  pub void_anywhere : validate_tag_path false bench 0xEC (k 0x4E01 ∷ k 0xA1 ∷ []) ≡ true
  pub void_at_root : validate_tag_path false bench 0xEC [] ≡ true
  -- D4: the Unknown Session is ended by a Session, so it is accepted at once, also inside Feed
  pub session_again : validate_tag_path false bench 0x4E01 (u 0x4E01 ∷ k 0xA1 ∷ []) ≡ true
  pub session_in_known : validate_tag_path false bench 0x4E01 (k 0x4E01 ∷ k 0xA1 ∷ []) ≡ false
  -- the matched ID counts: 82 alone is 1, with two above it 3
  pub matched-counts : validate_tag_path false globals 0x83 (k 0x82 ∷ []) ≡ true
  pub two_and_matched : validate_tag_path false globals 0x83 (k 0x81 ∷ k 0x82 ∷ []) ≡ true
  pub over-max : validate_tag_path false globals 0x83 (k 0x81 ∷ k 0x81 ∷ k 0x82 ∷ []) ≡ false
  pub not_matched : validate_tag_path false globals 0x83 (k 0x81 ∷ []) ≡ false
  pub at_least_2 : validate_tag_path false globals 0x84 (k 0x81 ∷ k 0x81 ∷ []) ≡ true
  pub below_2 : validate_tag_path false globals 0x84 (k 0x81 ∷ []) ≡ false
  pub at_most_1 : validate_tag_path false globals 0x85 (k 0x81 ∷ []) ≡ true
  pub above_1 : validate_tag_path false globals 0x85 (k 0x81 ∷ k 0x81 ∷ []) ≡ false

pub walked : Walked
unfolding walks_compute
walked = record {
  amount_in_feed = refl;
  amount_in_session = refl;
  amount_in_amount = refl;
  void_anywhere = refl;
  void_at_root = refl;
  session_again = refl;
  session_in_known = refl;
  matched-counts = refl;
  two_and_matched = refl;
  over-max = refl;
  not_matched = refl;
  at_least_2 = refl;
  below_2 = refl;
  at_most_1 = refl;
  above_1 = refl;
}

-- ---- the strict mode

-- Session, Feed in it, A7, a Master, in Feed, and B1 in Session
abbrev pub nested_entries : List ℕ
nested_entries = 0x4E01 ∷ 0 ∷ 0 ∷ 0 ∷ 0xA1 ∷ 0 ∷ 0 ∷ 1 ∷ 0xA7 ∷ 0 ∷ 0 ∷ 2 ∷ 0xB1 ∷ 1 ∷ 0 ∷ 1 ∷ []

abbrev pub nested_parts : List ℕ
nested_parts = 0 ∷ 0x4E01 ∷ 0 ∷ 0 ∷ 0xA1 ∷ 0 ∷ []

abbrev pub nested : List Entry
nested = table_of nested_entries nested_parts

-- a table that the check refuses: 81 is a Master in 83, 82 a Master in 81, and 83 a Binary in 81 and 82
abbrev pub knotted_entries : List ℕ
knotted_entries = 0x81 ∷ 0 ∷ 2 ∷ 1 ∷ 0x82 ∷ 0 ∷ 0 ∷ 1 ∷ 0x83 ∷ 4 ∷ 0 ∷ 2 ∷ []

abbrev pub knotted_parts : List ℕ
knotted_parts = 0 ∷ 0x81 ∷ 0 ∷ 0 ∷ 0x82 ∷ 0 ∷ 0 ∷ 0x83 ∷ 0 ∷ []

abbrev pub knotted : List Entry
knotted = table_of knotted_entries knotted_parts

pub record Strictly : Type 0 where
  -- a Session after an Unknown Session, where all above it is ended too
  pub session_again : validate_tag_path true bench 0x4E01 (u 0x4E01 ∷ u 0xA1 ∷ []) ≡ true
  -- D4: a Feed of known size is above it, which is not ended
  pub session_in_feed : validate_tag_path true bench 0x4E01 (u 0x4E01 ∷ k 0xA1 ∷ []) ≡ false
  -- D10: an ID without type does not end Session, and does not belong in it
  pub untyped_in_session : validate_tag_path true bench 0x81 (u 0x4E01 ∷ []) ≡ false
  -- B1 ends Feed, but not A7 above it: the port starts it inside A7
  pub nested_passes : checked_number (check_table nested_entries nested_parts) ≡ 0
  pub ends_not_all : validate_tag_path true nested 0xB1 (u 0x4E01 ∷ u 0xA1 ∷ u 0xA7 ∷ []) ≡ false
  pub ported_starts_it : validate_tag_path false nested 0xB1 (u 0x4E01 ∷ u 0xA1 ∷ u 0xA7 ∷ []) ≡ true
  pub ends_all : validate_tag_path true nested 0xB1 (u 0x4E01 ∷ u 0xA1 ∷ []) ≡ true
  -- without the check the walk accepts 83 in 81 and 82, and yet it ends 81
  pub knotted_faulty : checked_number (check_table knotted_entries knotted_parts) ≡ 34
  pub walk_accepts : walk_from true knotted (path_of knotted 0x83) 0x83 0 0 (left_open true knotted 0x83 (u 0x81 ∷ k 0x82 ∷ [])) ≡ true
  pub ends_one_below : validate_tag_path true knotted 0x83 (u 0x81 ∷ k 0x82 ∷ []) ≡ false

pub strictly : Strictly
unfolding walks_compute
strictly = record {
  session_again = refl;
  session_in_feed = refl;
  untyped_in_session = refl;
  nested_passes = refl;
  ends_not_all = refl;
  ported_starts_it = refl;
  ends_all = refl;
  knotted_faulty = refl;
  walk_accepts = refl;
  ends_one_below = refl;
}
