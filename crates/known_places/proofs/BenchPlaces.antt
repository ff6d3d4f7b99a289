-- Each element of a night lies where the bench table has it, and what is counted in a master is a child of it by the
-- table. Assumes nothing.
use Prim.Native.Nat.{ℕ}
use mathlib.Core.Path.{◌≡◌, refl, sym, ap, ◌∙◌}
use mathlib.Core.Bool.{true}
use mathlib.Core.List.{List, [], ◌∷◌, map, reverse, reverse-cons, reverse-reverse, map-append}
use Rattle.basics.proofs.Maps.{map_reversed}
use Rattle.table.specs.BenchTable.{bench_entries, bench_parts, bench}
use Rattle.table.specs.Check.{check_table, only_ids}
use Rattle.table.specs.Table.{data_type_of, path_of, path_ids, is_typed}
use Rattle.table.specs.declared.types.PathPart.TheVariants.{Id}
use Rattle.table.proofs.Computing.{table_computes}
use Rattle.table.proofs.Examples.{checks}
use Rattle.decoder_rules.specs.declared.types.Answer.TheVariants as answer
use Rattle.decoder_rules.specs.declared.types.Event.{Event}
use Rattle.decoder_rules.specs.declared.types.Event.TheVariants.{Start, Data}
use Rattle.guarantees.specs.Calls.{Call}
use Rattle.guarantees.specs.History.{Started}
use Rattle.guarantees.specs.Promises.{event_id, element_offset, Answers, open_at}
use Rattle.known_places.specs.BenchPlaces.{open_ids, BenchPlaces, CountedChildren}
use Rattle.known_places.specs.KnownPlaces.{place_of, OfPath, KnownHere}
use Rattle.known_places.proofs.CountedInFile.{counted_in_file}
use Rattle.known_places.proofs.FromRoot.{from_root}
use Rattle.known_places.proofs.KnownPlaces.{known_places}
use Rattle.std.specs.Prelude.{Ok, Some}

-- what is counted in a master is a child of it by the table
pub counted_children : (es ps : List ℕ) → check_table es ps ≡ Ok tt → CountedChildren es ps
counted_children es ps checked = record {
  child_of_last = λ cs c k e of m around q.
      sym ((known_places es ps checked).place_here cs c k e of)
      ∙ ap place_of q
      ∙ ap (map (λ (m : Started). Id m.id)) (reverse-cons m around)
      ∙ map-append (λ (m : Started). Id m.id) (reverse around) (m ∷ []);
}

-- the IDs of these parts
ids_of_parts : (l : List Started) → path_ids (map (λ (m : Started). Id m.id) l) ≡ map (λ (m : Started). m.id) l
unfolding path_ids
ids_of_parts [] = refl
ids_of_parts (m ∷ l) = ap (λ (k : List ℕ). m.id ∷ k) (ids_of_parts l)

-- the IDs of a place, the innermost last
ids_of_place : (l : List Started) → path_ids (place_of l) ≡ reverse (map (λ (m : Started). m.id) l)
ids_of_place l = ids_of_parts (reverse l) ∙ map_reversed (λ (m : Started). m.id) l

-- where the path of an element of the bench table is known, so are the Starts that are open
ids_by_path : (cs : List Call) (c : Call) → KnownHere bench_entries bench_parts cs c → (e : Event) (o : ℕ) → element_offset e ≡ Some o
    → Answers bench_entries bench_parts cs c (Ok (answer.Event e)) → is_typed (data_type_of bench (event_id e)) ≡ true → only_ids (path_of bench (event_id e)) ≡ true
    → open_ids bench_entries bench_parts cs ≡ reverse (path_ids (path_of bench (event_id e)))
ids_by_path cs c k e o i a typed ids =
    let of : OfPath bench_entries bench_parts cs c e = record { handed_out = a; offset = o; element = i; typed = typed; ids = ids } in
    let place = (known_places bench_entries bench_parts checks.bench_passes).place_here cs c k e of in
    sym (reverse-reverse (open_ids bench_entries bench_parts cs)) ∙ ap reverse (sym (ids_of_place (open_at bench_entries bench_parts cs)) ∙ ap path_ids place)

-- each element of the bench table lies where it belongs, and is counted there
pub bench-places : BenchPlaces
unfolding table_computes
bench-places = record {
  known_night = λ night cs c k. (from_root bench_entries bench_parts checks.bench_passes).known_here night k.to_come k.begins cs c k.octets k.in_order k.test_on k.sizes;
  amount_in_feed = λ cs c k o v a. ids_by_path cs c k (Data 0xA2 o v) o refl a refl refl;
  feed_in_session = λ cs c k o a. ids_by_path cs c k (Start 0xA1 o) o refl a refl refl;
  session_at_root = λ cs c k o a. ids_by_path cs c k (Start 0x4E01 o) o refl a refl refl;
  counted = λ night cs c k on.
      let none = (from_root bench_entries bench_parts checks.bench_passes).none_implied night k.to_come k.begins (c ∷ cs) k.octets k.in_order in
      (counted_in_file bench_entries bench_parts checks.bench_passes).end_counts_lem night cs c k.octets k.in_order on none k.sizes;
}
