-- One name for what a worked example of who ends whom and of the path walk computes with: a definition unfolds what its
-- own line names, so `unfolding walks_compute` opens all of it. Assumes nothing.
use Rattle.table.proofs.Computing.{table_computes}
use Rattle.spec_util.specs.Ended.{is_id_of, has_id, is_parent, is_sibling, is_typed_root, is_ended_by, is_ended_strictly, is_ended_in}
use Rattle.spec_util.specs.Walk.{over_max, under_min, is_id_at, walk_global, walk_global_strictly, walk_at, walk_part, unknown_and_ended, walk_master, min_met, walk_end, go_on, walk_from, ended_tops, left_open, place_along, validate_tag_path, masters_shown}
use Rattle.spec_util.specs.Rfc8794.{in_bounds, passes_after, path_names, global_only_last, globals_apart, all_different, at_most_once, read_one_way, stays_open, last_part, is_ended_by_rfc, untyped_at_root}

unfoldable pub walks_compute : Unit {0}
unfolding table_computes is_id_of has_id is_parent is_sibling is_typed_root is_ended_by is_ended_strictly is_ended_in over_max under_min is_id_at walk_global walk_global_strictly walk_at walk_part unknown_and_ended walk_master min_met walk_end go_on walk_from ended_tops left_open place_along validate_tag_path masters_shown in_bounds passes_after path_names global_only_last globals_apart all_different at_most_once read_one_way stays_open last_part is_ended_by_rfc untyped_at_root
walks_compute = tt
