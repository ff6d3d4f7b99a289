-- How a number is read from its digits, one after the other. Assumes nothing.
use Rattle.std.proofs.Common.{◌≡◌, ℕ, ◌+◌, ◌*◌, ◌<◌, ◌≤◌, List, [], ◌∷◌, length, get_or, drop, refl, arith, drop-cons, add-one, zero, suc}
use Rattle.std.proofs.Math.Seq.{drop-length}
use Rattle.std.proofs.lemmas.Grind.{get_or_default_zero}
use Rattle.numerals.specs.Numeral.{digit_of, read_from, read_back}
use Rattle.script_text.specs.Number.{IsDigit, SaysNumber}

-- the digits from i on, read after the number n, are those after it, read after n with the digit at i
pub one_read : (b n i : ℕ) (s : List ℕ) → i < length s → read_from b n (drop i s) ≡ read_from b (n * b + digit_of (get_or s i 0)) (drop (i + 1) s)
unfolding read_from
one_read b n i s h = rw (add-one, drop-cons s i 0) refl

-- where no digit is left, the number is n
all_read : (b n i : ℕ) (s : List ℕ) → i ≡ length s → read_from b n (drop i s) ≡ n
unfolding read_from
all_read b n i s e = rw (e, drop-length s) refl

-- and the text says it, where all that was read are digits
pub all_said : (b n i : ℕ) (s : List ℕ) → length s ≤ i → i ≤ length s → ((k : ℕ) → k < i → IsDigit b (get_or s k 0)) → read_from b n (drop i s) ≡ read_back b s → SaysNumber b s n
all_said b n i s least most digits e =
    let all = all_read b n i s (omega arith) in
    record {
      digits = λ k d here. rw (get_or_default_zero s k d here) (digits k (omega arith));
      value = cc (all, e);
    }

-- more digits say no smaller number
read_from_grows : (b n : ℕ) (s : List ℕ) → 0 < b → n ≤ read_from b n s
unfolding read_from
read_from_grows b n [] h = omega arith
read_from_grows zero n (c ∷ s) h = elim h [ ]
read_from_grows (suc b) n (c ∷ s) h =
    let more = read_from_grows (suc b) (n * suc b + digit_of c) s h in
    let e : n ≤ n * suc b = grind arith in
    omega arith

-- a number is no less than its first digits say
pub said_grows : (b n i m : ℕ) (s : List ℕ) → i < length s → read_from b n (drop i s) ≡ read_back b s → SaysNumber b s m → n * b + digit_of (get_or s i 0) ≤ m
said_grows b n i m s h e says =
    let low = (says.digits i 0 h).low in
    let pos : 0 < b = omega arith in
    let grows = read_from_grows b (n * b + digit_of (get_or s i 0)) (drop (i + 1) s) pos in
    omega (arith, one_read b n i s h, e, says.value, grows)
