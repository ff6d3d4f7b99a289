-- Signed vints: document 01, "Numbers": "two's complement in 7L bits; RFC 8794 has none, the Rust decides".
use Rattle.std.specs.Prelude.{ℕ, ◌-◌, ◌*◌, ◌^◌, Bool, true, false, cond, List, ltb, leb, eqb, ℤ, Err, Ok, Result}
use Rattle.std.specs.Int.Signed.{mag}
use Rattle.tools.specs.Vint.{read_vint, width_for, as_vint_with_length}
use Rattle.tools.specs.Twos.{signed_of, bits_of}
use Rattle.tools.specs.Integer.{absolute_value}
use Rattle.tools.specs.declared.errors.ToolError.TheVariants.{WriteSignedVintOverflow, WidthMismatch}
use Rattle.tools.specs.declared.status.Status.{Status}
use Rattle.tools.specs.declared.errors.ToolError.{ToolError}
use Rattle.tools.specs.declared.status.Status.TheVariants as status

-- a vint's value taken as two's complement in its 7 L bits; where bytes are missing, as many
unfoldable pub taken_signed : Result (Status (ℕ × ℕ)) ToolError → Result (Status (ℤ × ℕ)) ToolError
taken_signed (Ok (status.NeedMore missing)) = Ok (status.NeedMore missing)
taken_signed (Err e) = Err e
taken_signed (Ok (status.Complete (v, L))) = Ok (status.Complete (signed_of (7 * L) v, L))

-- the signed vint at the front of s
abbrev pub read_signed_vint : List ℕ → Result (Status (ℤ × ℕ)) ToolError
read_signed_vint s = taken_signed (read_vint s)

-- the answer asks for more bytes
abbrev pub signed_vint_needs_more : Result (Status (ℤ × ℕ)) ToolError → Bool
signed_vint_needs_more (Ok (status.NeedMore missing)) = true
signed_vint_needs_more (Err e) = false
signed_vint_needs_more (Ok (status.Complete (z, L))) = false

-- how many bytes it asks for, at least: 0 where it asks for none
abbrev pub signed_vint_missing : Result (Status (ℤ × ℕ)) ToolError → ℕ
signed_vint_missing (Ok (status.NeedMore missing)) = missing
signed_vint_missing (Err e) = 0
signed_vint_missing (Ok (status.Complete (z, L))) = 0

-- the least L of 1 to 7 whose 7 L bits hold the number, else 8: `mag` is n of n, and n of -1 - n
abbrev pub signed_width : ℤ → ℕ
signed_width z = width_for 1 (mag z)

-- no signed vint is written whose distance from 0 is this or greater
abbrev pub signed_vint_limit : ℕ
signed_vint_limit = 2 ^ 55

-- "takes the least L, and refuses −2^55 and below, 2^55 and above (3)"
unfoldable pub as_signed_vint : ℤ → List ℕ → Result ℕ ToolError × List ℕ
as_signed_vint z out =
    cond (leb signed_vint_limit (absolute_value z)) (Err WriteSignedVintOverflow, out)
    (as_vint_with_length (bits_of (7 * signed_width z) z) (signed_width z) out)

-- "With a given width, −2^(7L−1) is refused too"
unfoldable pub as_signed_vint_with_length : ℤ → ℕ → List ℕ → Result ℕ ToolError × List ℕ
as_signed_vint_with_length z L out =
    cond (eqb L 0) (Err WidthMismatch, out)
    (cond (ltb 8 L) (Err WidthMismatch, out)
    (cond (leb (2 ^ (7 * L - 1)) (absolute_value z)) (Err WriteSignedVintOverflow, out)
    (as_vint_with_length (bits_of (7 * L) z) L out)))
