-- Worked examples, computed from the definitions: the list of document 01's D1, with the input whole and in pieces, in
-- a buffer that holds it and in smaller ones; an element of exactly the buffer's size, and one that is a byte larger;
-- and the ends of numbers. Assumes nothing.
use Prim.Native.Nat.{ℕ, zero, suc, ◌-◌, ◌^◌}
use mathlib.Core.Path.{◌≡◌, refl}
use mathlib.Core.Bool.{Bool, true, false, cond}
use mathlib.Core.List.{List, [], ◌∷◌, ◌++◌, map}
use lib.IntN.{negsuc}
use lib.ListN.{take, drop, replicate}
use Rattle.decoder_rules.proofs.Computing.{rules_compute}
use Rattle.event_list.specs.Line as lines
use Rattle.numerals.specs.Numeral.{digits, places, hex, hex16, decimal, signed_decimal}
use Rattle.event_list.specs.Computed.{text_lines}
use Rattle.texts.specs.Ascii.{ascii}
use Rattle.event_list.specs.Reading.{started, unread, called, call_once, unread_moved_to_front, after_read}
use Rattle.event_list.specs.Run.{Stage, refilled}
use Rattle.event_list.specs.declared.types.Next.{Next}
use Rattle.event_list.specs.declared.types.Next.TheVariants.{Line, Last, Read}
use Rattle.event_list.specs.declared.types.CallResult.{CallResult}
use Rattle.event_list.proofs.Starred.{d1, d1_lines}

-- ---- a run of the program, computed: at most n steps of it

-- whether nothing is done after it
abbrev pub is_last : Next → Bool
is_last Line = false
is_last Last = true
is_last Read = false

-- what is printed after a call
abbrev pub text_of : Next → CallResult → List ℕ
text_of Line t = lines.line t.answer t.listing.decoder.position
text_of Last t = lines.line t.answer t.listing.decoder.position
text_of Read t = []

-- where the program stands then
abbrev pub after : Next → CallResult → Stage → Stage
after Line t s = record { at = t.listing; buffer = s.buffer; pieces = s.pieces }
after Last t s = record { at = t.listing; buffer = s.buffer; pieces = s.pieces }
after Read t s = refilled (unread_moved_to_front t.listing s.buffer) s.pieces

-- what at most n steps from a stage on print
unfoldable pub printed : ℕ → Stage → List ℕ
printed zero s = []
printed (suc n) s =
    let t = call_once s.at s.buffer in
    text_of t.next t ++ cond (is_last t.next) [] (printed n (after t.next t s))

-- the list of an input that comes in these pieces, in a buffer of so many zero bytes
abbrev pub list : ℕ → List (List ℕ) → List ℕ
list size pieces = printed 32 (record { at = started false; buffer = replicate size 0; pieces = pieces })

-- ---- D1

abbrev d1_text : List ℕ
d1_text = text_lines d1_lines

-- the first lines of it, up to Amount, and then `M 8`
abbrev too_large : List ℕ
too_large = text_lines ("S 4E01 0" ∷ "S A1 3" ∷ "U A2 5 120" ∷ "M 8" ∷ [])

-- the first 8 bytes, cut: D3
abbrev cut_text : List ℕ
cut_text = text_lines ("S 4E01 0" ∷ "S A1 3" ∷ "U A2 5 120" ∷ "X 23 0" ∷ [])

-- every byte a piece of its own
abbrev pub alone : List ℕ → List (List ℕ)
alone s = map (λ (x : ℕ). x ∷ []) s

-- an input in its pieces and a buffer's size, and the list
abbrev pub examples : List (List ℕ × List ℕ)
examples =
    (list 16 (d1 ∷ []), d1_text)
    -- the buffer is just the size of the largest element, Unit
    ∷ (list 4 (d1 ∷ []), d1_text)
    ∷ (list 4 (alone d1), d1_text)
    ∷ (list 5 (take 7 d1 ∷ drop 7 d1 ∷ []), d1_text)
    -- a byte less
    ∷ (list 3 (d1 ∷ []), too_large)
    ∷ (list 3 (alone d1), too_large)
    -- and where the input ends with the buffer's last byte
    ∷ (list 3 (take 11 d1 ∷ []), too_large)
    ∷ (list 16 (take 8 d1 ∷ []), cut_text)
    ∷ (list 4 (alone (take 8 d1)), cut_text)
    -- the greatest u64, the least i64, and 16 hex digits
    ∷ (decimal (2 ^ 64 - 1), ascii "18446744073709551615")
    ∷ (signed_decimal (negsuc (2 ^ 63 - 1)), ascii "-9223372036854775808")
    ∷ (decimal 0, ascii "0")
    ∷ (hex 0x4E01, ascii "4E01")
    ∷ (hex16 0xABCDEF, ascii "0000000000ABCDEF")
    ∷ []

-- every example prints its list
pub all_examples : map (λ (p : List ℕ × List ℕ). p.0) examples ≡ map (λ (p : List ℕ × List ℕ). p.1) examples
unfolding rules_compute text_lines digits places lines.element_text lines.range_text lines.value_text lines.event_text lines.refusal_text lines.position_text lines.answer_text lines.line unread called call_once unread_moved_to_front after_read refilled printed
all_examples = refl
