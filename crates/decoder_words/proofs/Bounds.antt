-- What is added up in a reply is small. Assumes nothing.
use Prim.Native.Nat.{ℕ, ◌+◌, ◌≤◌}
use mathlib.Core.Path.{◌≡◌, refl, ap₂}
use native.Mathlib.Omega.{arith}
use Rattle.decoder_rules.specs.Numbers as decoder
use Rattle.decoder_rules.specs.declared.types.DecodeError.{DecodeError}
use Rattle.decoder_rules.specs.declared.types.DecodeError.TheVariants as error
use Rattle.stored_decoder.specs.Refusals as stored
use Rattle.stored_decoder.specs.declared.types.StoreError.{StoreError}
use Rattle.stored_decoder.specs.declared.types.StoreError.TheVariants.{BlockLength, UnknownLayout, UnusedSet, BadState}
use Rattle.decoder_words.specs.Replies.{there_is, there_are, cut_named}
use Rattle.std.specs.Prelude.{cond, None, Option, Some}
use Rattle.std.specs.Option.{is_some}
use Rattle.tag_parse.specs.declared.types.Range.{Range}

-- the number of a refusal of the decoder
pub error_small : (e : DecodeError) → decoder.error_number e ≤ 81
error_small error.TableShape = omega arith
error_small error.BadState = omega arith
error_small error.TooFar = omega arith
error_small error.AfterFinish = omega arith
error_small error.InvalidTagData = omega arith
error_small error.InvalidTagId = omega arith
error_small error.HierarchyError = omega arith
error_small error.InvalidTagSize = omega arith
error_small error.OversizedChildElement = omega arith
error_small error.TooManyOpen = omega arith
error_small error.FromUtf8Error = omega arith
error_small error.ReadF64Mismatch = omega arith
error_small (error.UnexpectedEOF c) = omega arith
error_small error.NotAMaster = omega arith
error_small error.InvalidIdForm = omega arith
error_small error.UnknownSizePastEnd = omega arith

-- that of a refusal of words
pub store_error_small : (e : StoreError) → stored.error_number e ≤ 92
store_error_small BlockLength = omega arith
store_error_small UnknownLayout = omega arith
store_error_small UnusedSet = omega arith
store_error_small BadState = omega arith

-- what tells of an ID or a size
pub there_is_small : (o : Option ℕ) (n : ℕ) → there_is o n ≤ n
there_is_small None n = omega arith
there_is_small (Some m) n = omega arith

-- what tells of bytes
pub there_are_small : (p : Option Range) (n : ℕ) → there_are p n ≤ n
there_are_small None n = omega arith
there_are_small (Some r) n = omega arith

-- which of the three there are, as the code counts them
pub named : (id size : Option ℕ) (part : Option Range) {a b c : ℕ} → a ≡ cond (is_some id) 1 0 → b ≡ cond (is_some size) 2 0 → c ≡ cond (is_some part) 4 0 → a + (b + c) ≡ cut_named id size part
named id size part p q r = rw (p, q, r) (ap₂ (λ (x y : ℕ). x + y) (number id 1) (ap₂ (λ (x y : ℕ). x + y) (number size 2) (bytes part)))
  where
    number : (o : Option ℕ) (n : ℕ) → cond (is_some o) n 0 ≡ there_is o n
    number None n = refl
    number (Some m) n = refl

    bytes : (o : Option Range) → cond (is_some o) 4 0 ≡ there_are o 4
    bytes None = refl
    bytes (Some x) = refl
