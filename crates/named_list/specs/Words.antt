-- The words of a line: names of elements, spaces before them, and text that came from outside.
use Rattle.std.specs.Prelude.{ℕ, zero, suc, ◌+◌, ◌*◌, ◌/◌, ◌%◌, Bool, true, false, cond, List, [], ◌∷◌, ◌++◌, eqb, ltb, length, get_or, replicate}
use Rattle.numerals.specs.Numeral.{glyph, hex}
use Rattle.texts.specs.Ascii.{ascii}

-- two spaces for each of d masters
abbrev pub indentation : ℕ → List ℕ
indentation d = replicate (2 * d) 32

-- the name of an element of the bench table that is no master, or of a Feed; an ID that the table does not have in hex
unfoldable pub inner_name_of : ℕ → List ℕ
inner_name_of x =
    cond (eqb x 0xA1) (ascii "Feed")
    (cond (eqb x 0xA2) (ascii "Amount")
    (cond (eqb x 0xA3) (ascii "Unit")
    (cond (eqb x 0xA4) (ascii "Blob")
    (cond (eqb x 0xA5) (ascii "Shift")
    (cond (eqb x 0xA6) (ascii "Rate")
    (hex x))))))

-- the name of an element: "Session 4E01", "Feed A1", "Amount A2", "Unit A3", "Blob A4", "Shift A5", "Rate A6", "Void EC";
-- any other ID in hex
unfoldable pub name_of : ℕ → List ℕ
name_of x = cond (eqb x 0x4E01) (ascii "Session") (cond (eqb x 0xEC) (ascii "Void") (inner_name_of x))

-- ---- text that came from outside

-- the second octet of U+0080 to U+009F, whose first is C2
abbrev pub is_late_control : ℕ → Bool
is_late_control b = cond (ltb b 128) false (ltb b 160)

-- whether an octet of a text, between two others, belongs to a control character: U+0000 to U+001F, U+007F, or one of
-- the two octets of U+0080 to U+009F
unfoldable pub is_control : ℕ → ℕ → ℕ → Bool
is_control before b after =
    cond (ltb b 32) true
    (cond (eqb b 127) true
    (cond (eqb b 0xC2) (is_late_control after)
    (cond (eqb before 0xC2) (is_late_control b) false)))

-- an octet as it is shown: \x and two hex digits for one of a control character, a \ before \ and ", the others as they
-- are
unfoldable pub shown_octet : ℕ → ℕ → ℕ → List ℕ
shown_octet before b after =
    cond (is_control before b after) (92 ∷ 120 ∷ glyph (b / 16) ∷ glyph (b % 16) ∷ [])
    (cond (eqb b 34) (92 ∷ b ∷ [])
    (cond (eqb b 92) (92 ∷ b ∷ [])
    (b ∷ [])))

-- the first n octets of a text as they are shown, each with the one before it and the one after it in view (0 where
-- there is none)
unfoldable pub shown_up_to : List ℕ → ℕ → List ℕ
shown_up_to s zero = []
shown_up_to s (suc n) = shown_up_to s n ++ shown_octet (get_or (0 ∷ s) n 0) (get_or s n 0) (get_or s (n + 1) 0)

-- a text as it is shown
abbrev pub shown : List ℕ → List ℕ
shown s = shown_up_to s (length s)
