-- A size that is not known is 0 in the record of a fresh decoder, and so is a greatest size that is not set, and each
-- move and setting leaves them so. No call asks for it. Assumes nothing.
use Prim.Native.Nat.{ℕ, zero, suc, ◌≤◌, ◌<◌}
use mathlib.Core.Path.{◌≡◌, refl}
use mathlib.Core.Bool.{Bool, true, false, ◌||◌, true≢false}
use mathlib.Core.List.{List, [], ◌∷◌, ◌++◌, map}
use native.Mathlib.Omega.{arith}
use lib.Dec.{eqb}
use lib.ListN.{length, get_or, take}
use lib.Seq.{take-suc, take-suc-set}
use Rattle.basics.specs.Lists.{every}
use Rattle.basics.proofs.Bools.{and_both}
use Rattle.basics.proofs.Every.{every_append, every_front, every_last, every_map, every_take}
use Rattle.table.specs.declared.types.PathPart.{PathPart}
use Rattle.table.specs.declared.types.PathPart.TheVariants.{Id, Global}
use Rattle.tag_parse.specs.declared.types.EBMLSize.{EBMLSize}
use Rattle.tag_parse.specs.declared.types.EBMLSize.TheVariants.{Known, Unknown}
use Rattle.spec_util.specs.Walk.{most_open, no_tag}
use Rattle.spec_util.specs.declared.types.OpenTag.{OpenTag}
use Rattle.decoder_rules.specs.Record.{opens, fresh, with_settings, with_open, with_waiting, with_notes, implied, settled_to, opened, closed_to, handed_out, with_one_more, counted_last, counted, size_grown, with_sizes_grown}
use Rattle.decoder_rules.specs.Moving.{master_at}
use Rattle.decoder_rules.specs.declared.types.Settings.{Settings}
use Rattle.decoder_rules.specs.declared.types.TagDecoder.{TagDecoder}
use Rattle.decoder_rules.proofs.MoveEffects.{Arrays, settled_opens, opened-opens, closed_opens, grown_opens}

-- a master's size is known, or 0
unfoldable pub size_known_or0 : OpenTag → Bool
size_known_or0 m = m.known || eqb m.size 0

-- in a record 0 stands for a size that is not known, and for a greatest size that is not set
pub record AbsentZero (d : TagDecoder) : Type 0 where
  pub sizes : every size_known_or0 (opens d) ≡ true
  pub greatest : d.settings.max_given ≡ false → d.settings.max_size ≡ 0

-- so in a fresh record
pub fresh_absent : AbsentZero fresh
unfolding every
fresh_absent = record { sizes = refl; greatest = λ f. absurd (true≢false f) }

-- ---- masters

implied-sized : (p : PathPart) → size_known_or0 (implied p) ≡ true
unfolding size_known_or0
implied-sized (Id x) = refl
implied-sized (Global min max) = refl

all_implied : (path : List PathPart) → every size_known_or0 (map implied path) ≡ true
unfolding every
all_implied [] = refl
all_implied (p ∷ path) = and_both (implied-sized p) (all_implied path)

-- of a master that starts
pub master_sized : (x : ℕ) (z : EBMLSize) (p len : ℕ) → size_known_or0 (master_at x z p len) ≡ true
unfolding size_known_or0
master_sized x Unknown p len = refl
master_sized x (Known n) p len = refl

more_sized : (m : OpenTag) → size_known_or0 m ≡ true → size_known_or0 (with_one_more m) ≡ true
unfolding size_known_or0 with_one_more
more_sized m h = h

grown_sized : (n : ℕ) (m : OpenTag) → size_known_or0 m ≡ true → size_known_or0 (size_grown n m) ≡ true
unfolding size_grown size_known_or0
grown_sized n m h = go m.known refl
  where
    go : (b : Bool) → m.known ≡ b → size_known_or0 (size_grown n m) ≡ true
    go true e = rw e
    go false e = rw e (rw e at h)

counted-sized : (n : ℕ) (l : List OpenTag) → n ≤ length l → every size_known_or0 (take n l) ≡ true → every size_known_or0 (take n (counted_last n l)) ≡ true
unfolding counted_last
counted-sized zero l k h = h
counted-sized (suc n) l k h =
    let m = get_or l n no_tag in
    let g : every size_known_or0 (take n l ++ (m ∷ [])) ≡ true = rw (take-suc l n no_tag (omega arith)) at h in
    rw (take-suc-set l n (with_one_more m) (omega arith))
    (every_append size_known_or0 (take n l) (with_one_more m ∷ []) (every_front size_known_or0 (take n l) (m ∷ []) g) (one (with_one_more m) (more_sized m (every_last size_known_or0 (take n l) m g))))
  where
    one : (m : OpenTag) → size_known_or0 m ≡ true → every size_known_or0 (m ∷ []) ≡ true
    one m h = unfold every in rw h

-- ---- each move and setting keeps it

module _ (d : TagDecoder) (a : Arrays d) (few : d.open_count ≤ most_open) (z : AbsentZero d) where
  pub settings_absent : (s : Settings) → (s.max_given ≡ false → s.max_size ≡ 0) → AbsentZero (with_settings d s)
  unfolding with_settings
  settings_absent s h = record { sizes = z.sizes; greatest = h }

  pub with_notes_absent : (p : ℕ) (s f : Bool) → AbsentZero (with_notes d p s f)
  unfolding with_notes
  with_notes_absent p s f = record { sizes = z.sizes; greatest = z.greatest }

  pub settled_absent : (path : List PathPart) → AbsentZero (settled_to d path)
  unfolding settled_to with_open with_notes
  settled_absent path = record { sizes = rw (settled_opens d path) (all_implied path); greatest = z.greatest }

  pub opened_absent : (m : OpenTag) → d.open_count < most_open → size_known_or0 m ≡ true → AbsentZero (opened d m)
  unfolding opened with_open
  opened_absent m h s = record { sizes = rw (opened-opens d m (omega (arith, a.masters))) (every_append size_known_or0 (opens d) (m ∷ []) z.sizes (unfold every in rw s)); greatest = z.greatest }

  pub closed_absent : (k : ℕ) → k ≤ d.open_count → AbsentZero (closed_to d k)
  unfolding closed_to with_open with_waiting
  closed_absent k h = record { sizes = rw (closed_opens d k h (omega (arith, a.masters))) (every_take size_known_or0 k (opens d) z.sizes); greatest = z.greatest }

  pub handed_absent : AbsentZero (handed_out d)
  unfolding handed_out with_waiting
  handed_absent = record { sizes = z.sizes; greatest = z.greatest }

  pub counted_absent : AbsentZero (counted d)
  unfolding counted with_open
  counted_absent = record { sizes = counted-sized d.open_count d.«open» (omega (arith, a.masters)) z.sizes; greatest = z.greatest }

  pub grown_absent : (n : ℕ) → AbsentZero (with_sizes_grown d n)
  unfolding with_sizes_grown with_open
  grown_absent n = record { sizes = rw (grown_opens d n (omega (arith, a.masters))) (every_map size_known_or0 (size_grown n) size_known_or0 (grown_sized n) (opens d) z.sizes); greatest = z.greatest }
