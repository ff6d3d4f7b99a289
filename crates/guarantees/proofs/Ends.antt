-- Which masters close together: the outermost of them that is of known size is full. Closing by position (3) begins at
-- one that is full, and closing by the next ID (10) takes masters of unknown size alone. Assumes nothing.
use Prim.Native.Nat.{ℕ, suc, ◌+◌, ◌-◌, ◌≤◌, ◌<◌}
use mathlib.Core.Path.{◌≡◌, refl, sym, ap, ◌∙◌, subst}
use mathlib.Core.Bool.{Bool, true, false, cond, not, ◌&&◌, false≢true}
use mathlib.Core.List.{List, [], ◌∷◌, reverse, reverse-append, reverse-reverse}
use native.Mathlib.Numerals.{add-one}
use native.Mathlib.Omega.{arith}
use lib.Dec.{leb}
use lib.ListN.{length, get_or, take, drop, length-drop, length-reverse, take-append-drop}
use lib.Seq.{take_at, drop-cons}
use Rattle.basics.specs.Lists.{every, first_index}
use Rattle.table.specs.Table.{Entry}
use Rattle.spec_util.specs.Ended.{is_ended_in}
use Rattle.spec_util.specs.Walk.{no_tag, unknown_and_ended, ended_tops}
use Rattle.spec_util.specs.declared.types.OpenTag.{OpenTag}
use Rattle.decoder_rules.specs.Record.{opens, end_of}
use Rattle.decoder_rules.specs.OneCall.{is_full, step3, step10}
use Rattle.decoder_rules.specs.declared.types.TagDecoder.{TagDecoder}
use Rattle.basics.proofs.Bools.{and_both, both}
use Rattle.basics.proofs.Every.{every_other, every_reversed}
use Rattle.guarantees.specs.History.{first_end}
use Rattle.std.specs.Prelude.{None, Option, Some}

-- an end, if it is known
abbrev pub known_end : Bool → ℕ → Option ℕ
known_end true e = Some e
known_end false e = None

-- a master of this end has ended at p, if its size is known
abbrev pub ended_by : ℕ → Option ℕ → Bool
ended_by p None = true
ended_by p (Some e) = leb e p

-- the end of the first master of known size, outermost first
unfoldable pub first_known : List OpenTag → Option ℕ
first_known [] = None
first_known (m ∷ l) = first_end (known_end m.known (end_of m)) (first_known l)

-- of the masters above the first k, the outermost of known size is full
abbrev pub FullBatch : TagDecoder → ℕ → Type 0
FullBatch d k = ended_by d.position (first_known (drop k (opens d))) ≡ true

-- ---- tests and lists

-- the last n of a list, innermost first
pub take_reversed : {A : Type 0} (l : List A) (n : ℕ) → take (length l - n) (reverse l) ≡ reverse (drop n l)
take_reversed l n =
    ap (λ (k : List _). take (length l - n) (reverse k)) (sym (take-append-drop n l))
    ∙ ap (take (length l - n)) (reverse-append (take n l) (drop n l))
    ∙ take_at (reverse (drop n l)) (reverse (take n l)) (length l - n) (simp (length-reverse, length-drop))

-- ---- 3

done_known : (b : Bool) (p e : ℕ) (g : Option ℕ) → (b && leb e p) ≡ true → ended_by p (first_end (known_end b e) g) ≡ true
done_known true p e g h = h
done_known false p e g h = absurd (false≢true h)

-- the first that passes a test does
pub first_passes : (test : OpenTag → Bool) (l : List OpenTag) (z : OpenTag) → first_index test l < length l → test (get_or l (first_index test l) z) ≡ true
unfolding first_index
first_passes test [] z h = absurd (omega arith)
first_passes test (m ∷ l) z h = go (test m) refl h (λ g. first_passes test l z g)
  where
    go : (b : Bool) → test m ≡ b → cond b 0 (first_index test l + 1) < suc (length l) → (first_index test l < length l → test (get_or l (first_index test l) z) ≡ true)
        → test (get_or (m ∷ l) (cond b 0 (first_index test l + 1)) z) ≡ true
    go true e h rest = e
    go false e h rest = rw add-one (rest (omega arith))

first_full : (p : ℕ) (l : List OpenTag) → first_index (is_full p) l < length l → ended_by p (first_known (drop (first_index (is_full p) l) l)) ≡ true
unfolding first_known is_full
first_full p l h =
    let i = first_index (is_full p) l in
    let m = get_or l i no_tag in
    rw (drop-cons l i no_tag h) (done_known m.known p (end_of m) (first_known (drop (suc i) l)) (first_passes (is_full p) l no_tag h))

-- what closes by position
pub step3_batch : (d : TagDecoder) → length (opens d) ≡ d.open_count → step3 d < d.open_count → FullBatch d (step3 d)
step3_batch d n h = first_full d.position (opens d) (omega arith)

-- ---- 10

-- the size of a master is not known
abbrev pub unknown : OpenTag → Bool
unknown m = not m.known

unknown_first : (p : ℕ) (l : List OpenTag) → every unknown l ≡ true → ended_by p (first_known l) ≡ true
unfolding every first_known
unknown_first p [] h = refl
unknown_first p (m ∷ l) h = let b = both (unknown m) (every unknown l) h in go m.known b.left (unknown_first p l b.right)
  where
    go : (k : Bool) → not k ≡ true → ended_by p (first_known l) ≡ true → ended_by p (first_end (known_end k (end_of m)) (first_known l)) ≡ true
    go true e r = absurd (false≢true e)
    go false e r = r

-- each that closes by the ID is of unknown size and ended by it
pub tops_ended : (strict : Bool) (t : List Entry) (x : ℕ) (l : List OpenTag) → every (λ m. unknown_and_ended strict t m.known m.id x) (take (ended_tops strict t x l) l) ≡ true
unfolding ended_tops every
tops_ended strict t x [] = refl
tops_ended strict t x (m ∷ l) = go (unknown_and_ended strict t m.known m.id x) refl (tops_ended strict t x l)
  where
    go : (b : Bool) → unknown_and_ended strict t m.known m.id x ≡ b → every (λ m. unknown_and_ended strict t m.known m.id x) (take (ended_tops strict t x l) l) ≡ true
        → every (λ m. unknown_and_ended strict t m.known m.id x) (take (cond b (ended_tops strict t x l + 1) 0) (m ∷ l)) ≡ true
    go true e r = rw add-one (and_both e r)
    go false e r = refl

tops_unknown : (strict : Bool) (t : List Entry) (x : ℕ) (l : List OpenTag) → every unknown (take (ended_tops strict t x l) l) ≡ true
unfolding unknown_and_ended
tops_unknown strict t x l =
    every_other (λ m. unknown_and_ended strict t m.known m.id x) unknown (λ m e. (both (unknown m) (is_ended_in strict t m.id x) e).left) (take (ended_tops strict t x l) l) (tops_ended strict t x l)

tops_few : (strict : Bool) (t : List Entry) (x : ℕ) (l : List OpenTag) → ended_tops strict t x l ≤ length l
unfolding ended_tops
tops_few strict t x [] = omega arith
tops_few strict t x (m ∷ l) = go (unknown_and_ended strict t m.known m.id x) (tops_few strict t x l)
  where
    go : (b : Bool) → ended_tops strict t x l ≤ length l → cond b (ended_tops strict t x l + 1) 0 ≤ suc (length l)
    go true r = omega arith
    go false r = omega arith

-- what closes by the next ID
pub step10_batch : (t : List Entry) (d : TagDecoder) (x : ℕ) → length (opens d) ≡ d.open_count → step10 t d x < d.open_count → FullBatch d (step10 t d x)
step10_batch t d x n h =
    let strict = d.settings.strict in
    let j = ended_tops strict t x (reverse (opens d)) in
    let e : length (opens d) - step10 t d x ≡ j = omega (arith, tops_few strict t x (reverse (opens d)), length-reverse (opens d)) in
    let r : take j (reverse (opens d)) ≡ reverse (drop (step10 t d x) (opens d)) = ap (λ (i : ℕ). take i (reverse (opens d))) (sym e) ∙ take_reversed (opens d) (step10 t d x) in
    unknown_first d.position (drop (step10 t d x) (opens d))
    (subst (λ (l : List OpenTag). every unknown l ≡ true) (ap reverse r ∙ reverse-reverse (drop (step10 t d x) (opens d)))
    (every_reversed unknown (take j (reverse (opens d))) (tops_unknown strict t x (reverse (opens d)))))
