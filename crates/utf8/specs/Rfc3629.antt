-- UTF-8, RFC 3629: what a text is by section 3, as a relation, and by section 4, as a test that computes.
use Rattle.std.specs.Prelude.{ℕ, zero, suc, ◌+◌, ◌-◌, ◌*◌, ◌/◌, ◌%◌, ◌^◌, ◌≤◌, ◌<◌, Bool, true, false, cond, ◌&&◌, ◌⊎◌, ◌≡◌, leb, ltb, length}
use mathlib.Core.List.{List, [], ◌∷◌, map, flatten}

-- ---- section 3: characters and their octets

-- "characters from the U+0000..U+10FFFF range"; "The definition of UTF-8 prohibits encoding character numbers between
-- U+D800 and U+DFFF"
pub record CodePoint (c : ℕ) : Type 0 where
  pub at_most : c ≤ 0x10FFFF
  pub no_surrogate : (c < 0xD800) ⊎ (0xDFFF < c)

-- every number is a code point
abbrev pub CodePoints : List ℕ → Type 0
CodePoints [] = Unit
CodePoints (c ∷ cs) = CodePoint c × CodePoints cs

-- "The following octet(s) all have the higher-order bit set to 1 and the following bit set to 0, leaving 6 bits in
-- each": the k lowest groups of 6 bits of c, the highest first
unfoldable pub tails : ℕ → ℕ → List ℕ
tails zero c = []
tails (suc k) c = (0x80 + c / 2 ^ (6 * k) % 2 ^ 6) ∷ tails k c

-- the table "Char. number range | UTF-8 octet sequence":
--     0000 0000-0000 007F | 0xxxxxxx
--     0000 0080-0000 07FF | 110xxxxx 10xxxxxx
--     0000 0800-0000 FFFF | 1110xxxx 10xxxxxx 10xxxxxx
--     0001 0000-0010 FFFF | 11110xxx 10xxxxxx 10xxxxxx 10xxxxxx
unfoldable pub encode : ℕ → List ℕ
encode c =
    cond (leb c 0x7F) (c ∷ [])
    (cond (leb c 0x7FF) ((0xC0 + c / 2 ^ 6) ∷ tails 1 c)
    (cond (leb c 0xFFFF) ((0xE0 + c / 2 ^ 12) ∷ tails 2 c)
    ((0xF0 + c / 2 ^ 18) ∷ tails 3 c)))

-- section 4: "A UTF-8 string is a sequence of octets representing a sequence of UCS characters."
pub record IsText (s : List ℕ) : Type 0 where
  pub points : List ℕ
  pub valid : CodePoints points
  pub octets : flatten (map encode points) ≡ s

-- ---- section 4: "An octet sequence is valid UTF-8 only if it matches the following syntax"

-- the octets from the first number to the second
abbrev pub Range : Type 0
Range = ℕ × ℕ

-- the octet lies in the range
abbrev pub within : Range → ℕ → Bool
within r b = leb r.0 b && leb b r.1

-- one octet of each range stands in front, in order
unfoldable pub fits : List Range → List ℕ → Bool
fits [] s = true
fits (r ∷ rs) [] = false
fits (r ∷ rs) (b ∷ s) = within r b && fits rs s

-- UTF8-tail = %x80-BF
abbrev pub tail : Range
tail = (0x80, 0xBF)

-- UTF8-1 = %x00-7F
-- UTF8-2 = %xC2-DF UTF8-tail
-- UTF8-3 = %xE0 %xA0-BF UTF8-tail / %xE1-EC 2( UTF8-tail ) / %xED %x80-9F UTF8-tail / %xEE-EF 2( UTF8-tail )
-- UTF8-4 = %xF0 %x90-BF 2( UTF8-tail ) / %xF1-F3 3( UTF8-tail ) / %xF4 %x80-8F 2( UTF8-tail )
unfoldable pub rows : List (List Range)
rows =
    ((0x00, 0x7F) ∷ [])
    ∷ ((0xC2, 0xDF) ∷ tail ∷ [])
    ∷ ((0xE0, 0xE0) ∷ (0xA0, 0xBF) ∷ tail ∷ [])
    ∷ ((0xE1, 0xEC) ∷ tail ∷ tail ∷ [])
    ∷ ((0xED, 0xED) ∷ (0x80, 0x9F) ∷ tail ∷ [])
    ∷ ((0xEE, 0xEF) ∷ tail ∷ tail ∷ [])
    ∷ ((0xF0, 0xF0) ∷ (0x90, 0xBF) ∷ tail ∷ tail ∷ [])
    ∷ ((0xF1, 0xF3) ∷ tail ∷ tail ∷ tail ∷ [])
    ∷ ((0xF4, 0xF4) ∷ (0x80, 0x8F) ∷ tail ∷ tail ∷ [])
    ∷ []

-- the length of the first row that fits, 0 where none does
unfoldable pub first_fit : List (List Range) → List ℕ → ℕ
first_fit [] s = 0
first_fit (r ∷ rs) s = cond (fits r s) (length r) (first_fit rs s)

-- UTF8-char = UTF8-1 / UTF8-2 / UTF8-3 / UTF8-4: how many octets the character in front has, 0 where none stands there
abbrev pub char_length : List ℕ → ℕ
char_length s = first_fit rows s

-- k octets, and then a text
unfoldable pub text_after : ℕ → List ℕ → Bool
text_after zero [] = true
text_after (suc k) [] = false
text_after zero (b ∷ s) = ltb 0 (char_length (b ∷ s)) && text_after (char_length (b ∷ s) - 1) s
text_after (suc k) (b ∷ s) = text_after k s

-- UTF8-octets = *( UTF8-char )
abbrev pub is_text : List ℕ → Bool
is_text s = text_after 0 s
