-- Quoted text as the bytes that code has for it.
use Rattle.std.specs.Prelude.{ℕ, List, [], ◌∷◌}
use Prim.Native.Char.{code}
use Prim.Native.String.{String, [] as none, ◌∷◌ as ◌before◌}

-- the codes of a text's characters: of a text in ASCII, its bytes
abbrev pub ascii : String → List ℕ
ascii none = []
ascii (c before s) = code c ∷ ascii s
