-- What only the contracts of this crate's helpers cite.
use Rattle.std.specs.Prelude.{ℕ, ◌+◌, List, ◌++◌, length, take, drop, cond, eqb, Ok, Err, Result, ⊤}
use Rattle.decoder_rules.specs.OneCall.{good_state}
use Rattle.decoder_rules.specs.declared.types.TagDecoder.{TagDecoder}
use Rattle.stored_decoder.specs.declared.types.StoreError.{StoreError}
use Rattle.stored_decoder.specs.declared.types.StoreError.TheVariants.{BlockLength, BadState}

-- a list with others written over it from place i on
unfoldable pub over : {A : Type 0} → ℕ → List A → List A → List A
over i l m = take i m ++ (l ++ drop (i + length l) m)

-- whether a record may be stored in room of length n, where `wanted` is wanted
abbrev pub may_store : ℕ → ℕ → TagDecoder → Result ⊤ StoreError
may_store wanted n d = cond (eqb n wanted) (cond (good_state d) (Ok tt) (Err BadState)) (Err BlockLength)
