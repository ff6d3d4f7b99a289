-- The line of a verdict.
use Rattle.std.specs.Prelude.{ℕ, cond, List, [], ◌∷◌, ◌++◌, eqb, None, Option, Some}
use Prim.Native.String.{String}
use Rattle.numerals.specs.Numeral.{hex, decimal}
use Rattle.texts.specs.Ascii.{ascii}
use Rattle.whole.specs.declared.types.Root.{Root}
use Rattle.whole.specs.declared.types.Verdict.{Verdict}
use Rattle.whole.specs.declared.types.Verdict.TheVariants as verdict

-- so many of what the word names: `1 feed`, `5 feeds`
unfoldable pub counted : ℕ → List ℕ → List ℕ
counted n word = decimal n ++ (32 ∷ []) ++ word ++ cond (eqb n 1) [] (115 ∷ [])

-- a text, and then a number
abbrev pub numbered : String → ℕ → List ℕ
numbered text n = ascii text ++ decimal n

-- an ID, a text, and then a number
abbrev pub identified : ℕ → String → ℕ → List ℕ
identified x text n = hex x ++ numbered text n

-- a number of bytes
abbrev pub bytes : ℕ → List ℕ
bytes n = counted n (ascii "byte")

-- numbers of feeds and of bytes
abbrev pub counts : ℕ → ℕ → List ℕ
counts n m = counted n (ascii "feed") ++ ascii ", " ++ bytes m

-- the size of a master, or that it has none
unfoldable pub size_text : Option ℕ → List ℕ
size_text None = ascii "no size, "
size_text (Some n) = numbered "size " n ++ ascii ", "

-- the root that is open where the input ends
unfoldable pub root_text : Option Root → List ℕ
root_text None = []
root_text (Some root) = identified root.id " began at " root.start ++ ascii ", " ++ size_text root.size

-- what is said of an input
unfoldable pub verdict_text : Verdict → List ℕ
verdict_text (verdict.Whole n m) = ascii "WHOLE " ++ counts n m
verdict_text verdict.Empty = ascii "EMPTY"
verdict_text verdict.FrontMissing = ascii "FRONT MISSING"
verdict_text (verdict.Refused n p) = numbered "REFUSED " n ++ numbered " at " p
verdict_text (verdict.TooLarge p) = numbered "TOO LARGE at " p
verdict_text (verdict.Cut p r m) = numbered "CUT at " p ++ ascii ": " ++ root_text r ++ bytes m ++ ascii " there"
verdict_text (verdict.CannotTell x p) = ascii "CANNOT TELL: " ++ identified x " at " p ++ ascii " has no size"
verdict_text (verdict.More k n m) = ascii "MORE: " ++ counted k (ascii "record") ++ ascii ", " ++ counts n m
verdict_text verdict.NotEnded = ascii "NOT ENDED"

-- the line: the text and a newline
unfoldable pub verdict_line : Verdict → List ℕ
verdict_line v = verdict_text v ++ (10 ∷ [])

-- no line has more bytes: even that of a cut has an ID of 16 digits, four numbers of 20 and a few words
abbrev pub most_line : ℕ
most_line = 156
