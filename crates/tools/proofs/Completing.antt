-- Document 02, CR 1: a vint that is begun, made whole by as many bytes as are missing. Its value lies between those that
-- zeros and FF bytes make. Assumes nothing.
use Prim.Native.Nat.{ℕ, zero, suc, ◌+◌, ◌*◌, ◌≤◌, ◌<◌}
use mathlib.Core.List.{List, [], ◌∷◌, ◌++◌}
use mathlib.Core.Path.{◌≡◌, refl, sym, ap, ◌∙◌}
use native.Mathlib.Omega.{arith}
use lib.ListN.{length, get_or, replicate, length-append, get_or-append}
use lib.Seq.{take_all}
use Rattle.tools.specs.Bytes.{Octets, be_from, be_number}
use Rattle.tools.specs.Vint.{vint_length, vint_value, less_present, read_vint, vint_missing}
use Rattle.tools.proofs.Cases.{read_short, read_whole}
use Rattle.std.specs.Prelude.{Ok}
use Rattle.tools.specs.declared.status.Status.TheVariants as status

-- bytes behind bytes
be_joined : (n : ℕ) (s t : List ℕ) → be_from n (s ++ t) ≡ be_from (be_from n s) t
unfolding be_from
be_joined n [] t = refl
be_joined n (b ∷ s) t = be_joined (n * 256 + b) s t

-- zeros make the least number, and FF bytes the greatest
be_least : (m n : ℕ) (t : List ℕ) → m ≤ n → be_from m (replicate (length t) 0) ≤ be_from n t
unfolding be_from
be_least m n [] h = h
be_least m n (b ∷ t) h = be_least (m * 256 + 0) (n * 256 + b) t (omega arith)

be_greatest : (m n : ℕ) (t : List ℕ) → Octets t → m ≤ n → be_from m t ≤ be_from n (replicate (length t) 255)
unfolding be_from
be_greatest m n [] byte h = h
be_greatest m n (b ∷ t) byte h = be_greatest (m * 256 + b) (n * 256 + 255) t (λ i. byte (suc i)) (omega (arith, byte 0))

-- the last of FF bytes alone is 255
be_over : (m n k : ℕ) → m ≤ n → be_from m (replicate (suc k) 0) + 255 ≤ be_from n (replicate (suc k) 255)
unfolding be_from
be_over m n zero h = omega arith
be_over m n (suc k) h = be_over (m * 256 + 0) (n * 256 + 255) k (omega arith)

pub octets_ones : (k : ℕ) → Octets (replicate k 255)
octets_ones zero i = omega arith
octets_ones (suc k) zero = omega arith
octets_ones (suc k) (suc i) = octets_ones k i

module _ (s : List ℕ) (some : length s ≡ 0 → ⊥) (n : get_or s 0 0 ≡ 0 → ⊥) (short : length s < vint_length (get_or s 0 0)) where
  -- so many are missing
  pub begun_missing : vint_missing (read_vint s) ≡ less_present (vint_length (get_or s 0 0)) s
  begun_missing = ap vint_missing (read_short s some n short)

  -- any bytes make it whole, as many as are missing
  pub begun_whole : (t : List ℕ) → length t ≡ vint_missing (read_vint s)
      → read_vint (s ++ t) ≡ Ok (status.Complete (vint_value (vint_length (get_or s 0 0)) (s ++ t), vint_length (get_or s 0 0)))
  begun_whole t e =
      let L = vint_length (get_or s 0 0) in
      let first : get_or (s ++ t) 0 0 ≡ get_or s 0 0 = get_or-append s t 0 0 (omega arith) in
      let more : length (s ++ t) ≡ length s + length t = length-append s t in
      let c = begun_missing in
      let w : vint_length (get_or (s ++ t) 0 0) ≡ L = ap vint_length first in
      read_whole (s ++ t) (λ x. omega arith) (λ x. n (sym first ∙ x)) (rw w (omega arith))
      ∙ rw (w, take_all L (s ++ t) (omega arith))

  -- and its value is at least that of zeros, at most that of FF bytes
  pub begun_least : (t : List ℕ) → length t ≡ vint_missing (read_vint s)
      → vint_value (vint_length (get_or s 0 0)) (s ++ replicate (vint_missing (read_vint s)) 0) ≤ vint_value (vint_length (get_or s 0 0)) (s ++ t)
  begun_least t e = rw (← e, be_joined 0 s (replicate (length t) 0), be_joined 0 s t) (omega (arith, be_least (be_number s) (be_number s) t (omega arith)))

  pub begun_greatest : (t : List ℕ) → Octets t → length t ≡ vint_missing (read_vint s)
      → vint_value (vint_length (get_or s 0 0)) (s ++ t) ≤ vint_value (vint_length (get_or s 0 0)) (s ++ replicate (vint_missing (read_vint s)) 255)
  begun_greatest t byte e = rw (← e, be_joined 0 s (replicate (length t) 255), be_joined 0 s t) (omega (arith, be_greatest (be_number s) (be_number s) t byte (omega arith)))

  -- FF bytes make at least 255 more than zeros, where zeros make some
  pub begun-over : 0 < vint_value (vint_length (get_or s 0 0)) (s ++ replicate (vint_missing (read_vint s)) 0)
      → vint_value (vint_length (get_or s 0 0)) (s ++ replicate (vint_missing (read_vint s)) 0) + 255 ≤ vint_value (vint_length (get_or s 0 0)) (s ++ replicate (vint_missing (read_vint s)) 255)
  begun-over = go (vint_missing (read_vint s)) (omega (arith, begun_missing))
    where
      go : (m : ℕ) → 0 < m → 0 < vint_value (vint_length (get_or s 0 0)) (s ++ replicate m 0)
          → vint_value (vint_length (get_or s 0 0)) (s ++ replicate m 0) + 255 ≤ vint_value (vint_length (get_or s 0 0)) (s ++ replicate m 255)
      go zero p q = absurd (omega arith)
      go (suc k) p q =
          let lo = be_joined 0 s (replicate (suc k) 0) in
          let hi = be_joined 0 s (replicate (suc k) 255) in
          let over = be_over (be_number s) (be_number s) k (omega arith) in
          omega arith
