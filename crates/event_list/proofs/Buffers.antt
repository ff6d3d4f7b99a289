-- Laws of the buffer and of one call on it, over plain values. Assumes nothing.
use Prim.Native.Nat.{ℕ, ◌+◌, ◌-◌, ◌<◌, min}
use mathlib.Core.Path.{◌≡◌, refl, sym, ap, ◌∙◌}
use mathlib.Core.Bool.{Bool, true, false, false≢true}
use mathlib.Core.List.{List, ◌++◌}
use native.Mathlib.Omega.{arith}
use borrow.Author.Tests.{le-ltb, ne_eqb}
use lib.IntN.{ℤ, pos, negsuc, nat_abs}
use lib.ListN.{length, take, drop, get_or, set, length-drop}
use lib.Seq.{length-take-le, get_or-append-add, get_or-drop}
use lib.Signed.{lt_z}
use Rattle.tools.specs.Answers.{Gives}
use Rattle.tools.proofs.BigEndian.{over_more}
use Rattle.decoder_rules.specs.Moving.{decode}
use Rattle.decoder_rules.specs.EndOfInput.{decode_eof}
use Rattle.decoder_rules.specs.declared.types.Decoded.{Decoded}
use Rattle.decoder_rules.specs.declared.types.TagDecoder.{TagDecoder}
use Rattle.table.specs.BenchTable.{bench_entries, bench_parts}
use Rattle.event_list.specs.Reading.{listing, unread, called, next_of, call_once, unread_moved_to_front, filled_by, after_read}
use Rattle.event_list.specs.declared.types.Listing.{Listing}
use Rattle.event_list.specs.declared.types.Next.{Next}
use Rattle.event_list.specs.declared.types.CallResult.{CallResult}

-- ---- a call

pub called_over : {over : Bool} (d : TagDecoder) (s : List ℕ) {es ps : List ℕ} {r : Decoded}
    → over ≡ true → es ≡ bench_entries → ps ≡ bench_parts → r ≡ decode_eof es ps d s → r ≡ called over d s
unfolding called
called_over d s o e p h = rw o (rw (e, p) at h)

pub called_on : {over : Bool} (d : TagDecoder) (s : List ℕ) {es ps : List ℕ} {r : Decoded}
    → over ≡ false → es ≡ bench_entries → ps ≡ bench_parts → r ≡ decode es ps d s → r ≡ called over d s
unfolding called
called_on d s o e p h = rw o (rw (e, p) at h)

-- ---- one call, and what is to be done after it

pub call_once_is : (l : Listing) (b : List ℕ) {u f : ℕ} {r : Decoded} {n : Next} → u ≡ min l.upto (length b) → f ≡ min l.from u
    → r ≡ called l.ended l.decoder (take (u - f) (drop f b)) → n ≡ next_of r.answer (u - f) (length b)
    → ◌≡◌ {A = CallResult} (record { answer = r.answer; next = n; listing = listing r.state (f + r.taken) u l.ended }) (call_once l b)
unfolding call_once unread
call_once_is l b eu ef er en = rw (en, er, ef, eu)

-- ---- before a read

-- a byte moves: what stands at from + i is still as it came
pub shift_more : (s : List ℕ) (from i : ℕ) → from + i < length s
    → set (take i (drop from s) ++ drop i s) i (get_or (take i (drop from s) ++ drop i s) (from + i) 0) ≡ take (i + 1) (drop from s) ++ drop (i + 1) s
shift_more s from i h =
    let t = drop from s in
    let n : i < length t = rw length-drop (omega arith) in
    let k : length (take i t) ≡ i = length-take-le i t (omega arith) in
    let e : from + i ≡ length (take i t) + from = omega arith in
    let v : get_or (take i t ++ drop i s) (from + i) 0 ≡ get_or t i 0 =
    ap (λ (x : ℕ). get_or (take i t ++ drop i s) x 0) e
    ∙ get_or-append-add (take i t) (drop i s) from 0
    ∙ get_or-drop i s from 0
    ∙ ap (λ (x : ℕ). get_or s x 0) (omega arith)
    ∙ sym (get_or-drop from s i 0) in
    rw v (over_more t s i n (omega arith))

pub moved_to_front_is : (l : Listing) (b : List ℕ) {u f : ℕ} {o : List ℕ} → u ≡ min l.upto (length b) → f ≡ min l.from u
    → o ≡ take (u - f) (drop f b) ++ drop (u - f) b → Gives (listing l.decoder 0 (u - f) l.ended) o (unread_moved_to_front l b)
unfolding unread_moved_to_front unread
moved_to_front_is l b eu ef eo = rw (eo, ef, eu) (record { answer = refl; bytes = refl })

-- ---- after a read

pub filled_none : (n : ℕ) (l : Listing) {k : ℕ} → k ≡ 0 → listing l.decoder l.from l.upto true ≡ filled_by n l k
filled_none n l {k} e = rw e

pub filled_more : (n : ℕ) (l : Listing) {k u m : ℕ} → (k ≡ 0 → ⊥) → u ≡ min l.upto n → m ≡ min k (n - u)
    → listing l.decoder l.from (u + m) l.ended ≡ filled_by n l k
filled_more n l {k} {u} {m} f eu em =
    let p = l.upto in
    let e : u + m ≡ min (p + k) n = omega arith in
    rw (ne_eqb k 0 f, e)

pub interrupted : (n : ℕ) (l : Listing) (z : ℤ) → lt_z z (pos 0) ≡ true → l ≡ after_read n l z
unfolding after_read
interrupted n l (pos k) t = absurd (false≢true (sym (le-ltb k 0 (omega arith)) ∙ t))
interrupted n l (negsuc k) t = refl

pub answered : (n : ℕ) (l : Listing) (z : ℤ) {r : Listing} → lt_z z (pos 0) ≡ false → r ≡ filled_by n l (nat_abs z) → r ≡ after_read n l z
unfolding after_read
answered n l (pos k) t e = e
answered n l (negsuc k) t e = absurd (false≢true (sym t))
