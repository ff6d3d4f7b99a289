-- The worked examples of RFC 3629, the ends of each row, and octets that are no text. Assumes nothing.
use Prim.Native.Nat.{ℕ}
use mathlib.Core.Path.{◌≡◌, refl}
use mathlib.Core.Bool.{true, false}
use mathlib.Core.List.{List, [], ◌∷◌, map, flatten}
use lib.ListN.{replicate}
use Rattle.utf8.specs.Rfc3629.{tails, encode, fits, rows, first_fit, text_after, is_text}

-- section 7: the character numbers and the octets
pub section_7 : List (List ℕ × List ℕ)
section_7 =
    (0x0041 ∷ 0x2262 ∷ 0x0391 ∷ 0x002E ∷ [], 0x41 ∷ 0xE2 ∷ 0x89 ∷ 0xA2 ∷ 0xCE ∷ 0x91 ∷ 0x2E ∷ [])
    ∷ (0xD55C ∷ 0xAD6D ∷ 0xC5B4 ∷ [], 0xED ∷ 0x95 ∷ 0x9C ∷ 0xEA ∷ 0xB5 ∷ 0xAD ∷ 0xEC ∷ 0x96 ∷ 0xB4 ∷ [])
    ∷ (0x65E5 ∷ 0x672C ∷ 0x8A9E ∷ [], 0xE6 ∷ 0x97 ∷ 0xA5 ∷ 0xE6 ∷ 0x9C ∷ 0xAC ∷ 0xE8 ∷ 0xAA ∷ 0x9E ∷ [])
    ∷ (0xFEFF ∷ 0x233B4 ∷ [], 0xEF ∷ 0xBB ∷ 0xBF ∷ 0xF0 ∷ 0xA3 ∷ 0x8E ∷ 0xB4 ∷ [])
    ∷ []

pub encoded : map (λ x. flatten (map encode x.0)) section_7 ≡ map (λ x. x.1) section_7
unfolding section_7 flatten encode tails
encoded = refl

pub taken : map (λ x. is_text x.1) section_7 ≡ replicate 4 true
unfolding section_7 text_after first_fit rows fits
taken = refl

-- the first and the last character of each length, and those around the surrogates
pub ends : List (List ℕ)
ends =
    (0x00 ∷ 0x7F ∷ [])
    ∷ (0xC2 ∷ 0x80 ∷ 0xDF ∷ 0xBF ∷ [])
    ∷ (0xE0 ∷ 0xA0 ∷ 0x80 ∷ 0xEF ∷ 0xBF ∷ 0xBF ∷ [])
    ∷ (0xED ∷ 0x9F ∷ 0xBF ∷ 0xEE ∷ 0x80 ∷ 0x80 ∷ [])
    ∷ (0xF0 ∷ 0x90 ∷ 0x80 ∷ 0x80 ∷ 0xF4 ∷ 0x8F ∷ 0xBF ∷ 0xBF ∷ [])
    ∷ []

pub ends_taken : map is_text ends ≡ replicate 5 true
unfolding ends text_after first_fit rows fits
ends_taken = refl

-- overlong, with section 10's "2F C0 AE 2E 2F"; surrogates; past 10FFFF; cut short; a tail alone
pub no_texts : List (List ℕ)
no_texts =
    (0xC0 ∷ 0x80 ∷ [])
    ∷ (0x2F ∷ 0xC0 ∷ 0xAE ∷ 0x2E ∷ 0x2F ∷ [])
    ∷ (0xE0 ∷ 0x9F ∷ 0xBF ∷ [])
    ∷ (0xF0 ∷ 0x8F ∷ 0xBF ∷ 0xBF ∷ [])
    ∷ (0xED ∷ 0xA0 ∷ 0x80 ∷ [])
    ∷ (0xED ∷ 0xA1 ∷ 0x8C ∷ 0xED ∷ 0xBE ∷ 0xB4 ∷ [])
    ∷ (0xF4 ∷ 0x90 ∷ 0x80 ∷ 0x80 ∷ [])
    ∷ (0xF5 ∷ 0x80 ∷ 0x80 ∷ 0x80 ∷ [])
    ∷ (0x41 ∷ 0xE2 ∷ 0x89 ∷ [])
    ∷ (0x80 ∷ [])
    ∷ []

pub refused : map is_text no_texts ≡ replicate 10 false
unfolding no_texts text_after first_fit rows fits
refused = refl
