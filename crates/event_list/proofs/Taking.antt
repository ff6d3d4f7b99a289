-- No call of the lister takes more bytes than were unread, and once the input has ended none asks for more. Assumes
-- nothing.
use Prim.Native.Nat.{ℕ, ◌≤◌}
use mathlib.Core.Path.{◌≡◌, refl, sym, ◌∙◌}
use mathlib.Core.Bool.{Bool, true, false, false≢true}
use mathlib.Core.List.{List}
use native.Mathlib.Omega.{arith}
use lib.ListN.{length, take, drop, length-take}
use Rattle.basics.proofs.Bools.{absurd_eq}
use Rattle.tools.specs.Bytes.{Octets}
use Rattle.tools.proofs.BigEndian.{octets_take}
use Rattle.tag_parse.proofs.Cases.{octets_drop}
use Rattle.decoder_rules.specs.Moving.{needs_more}
use Rattle.decoder_rules.specs.declared.types.Answer.{Answer}
use Rattle.decoder_rules.specs.declared.types.Answer.TheVariants as answer
use Rattle.decoder_rules.specs.declared.types.Decoded.{Decoded}
use Rattle.decoder_rules.specs.declared.types.TagDecoder.{TagDecoder}
use Rattle.tag_decoder.proofs.CallLaws.{takes_within, eof_facts}
use Rattle.tag_decoder_laws.proofs.Finishing.{eof_asks_no_more}
use Rattle.table.specs.BenchTable.{bench_entries, bench_parts}
use Rattle.event_list.specs.Reading.{listing, unread, called, next_of, call_once}
use Rattle.event_list.specs.declared.types.Next.TheVariants.{Read}
use Rattle.std.specs.Prelude.{Err, Ok, Result}
use Rattle.decoder_rules.specs.declared.types.Refusal.{Refusal}

-- the call that is due takes no more than it was lent
pub call_takes : (over : Bool) (d : TagDecoder) (s : List ℕ) → Octets s → (called over d s).taken ≤ length s
unfolding called
call_takes true d s byte = (eof_facts bench_entries bench_parts d s byte).within
call_takes false d s byte = takes_within bench_entries bench_parts d s byte

-- of a part of a buffer
pub part_takes : (over : Bool) (d : TagDecoder) (b : List ℕ) (n from : ℕ) {r : Decoded} → Octets b
    → r ≡ called over d (take n (drop from b)) → r.taken ≤ n
part_takes over d b n from byte e =
    let s = take n (drop from b) in
    let h = call_takes over d s (octets_take n (drop from b) (octets_drop from b byte)) in
    rw e (omega (arith, length-take n (drop from b)))

-- once the input has ended no call asks for more
pub over_asks_no_more : (d : TagDecoder) (s : List ℕ) → needs_more (called true d s).answer ≡ false
unfolding called
over_asks_no_more d s = eof_asks_no_more bench_entries bench_parts d s

-- a read is due only where more is asked for
pub reads_on : (a : Result Answer Refusal) (n room : ℕ) → next_of a n room ≡ Read → needs_more a ≡ true
reads_on (Ok (answer.Event e)) n room q = let z : ◌≡◌ {A = ℕ} 0 1 = cc in absurd_eq z
reads_on (Ok (answer.NeedMore missing)) n room q = refl
reads_on (Ok answer.Finished) n room q = let z : ◌≡◌ {A = ℕ} 0 1 = cc in absurd_eq z
reads_on (Err r) n room q = let z : ◌≡◌ {A = ℕ} 0 1 = cc in absurd_eq z

-- so once the input has ended nothing is read
pub no_read_after_end : (d : TagDecoder) (from upto : ℕ) (b : List ℕ) → (call_once (listing d from upto true) b).next ≡ Read → ⊥
unfolding call_once
no_read_after_end d from upto b q =
    let s = unread (listing d from upto true) b in
    false≢true (sym (over_asks_no_more d s) ∙ reads_on (called true d s).answer _ _ q)
