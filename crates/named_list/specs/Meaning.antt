-- What the number of each refusal means, in a few words; 80 and 81 come of the strict reading alone.
use Rattle.std.specs.Prelude.{ℕ, cond, List, eqb, ltb}
use Rattle.texts.specs.Ascii.{ascii}

-- what 10 to 13 and 24 mean, and any number that is no refusal of the decoder's: none of them comes from a record that
-- the lister reads with its own table
unfoldable pub inner_meaning : ℕ → List ℕ
inner_meaning n =
    cond (eqb n 10) (ascii "the table has a bad shape")
    (cond (eqb n 11) (ascii "the decoder's record is damaged")
    (cond (eqb n 12) (ascii "the input is longer than 2^62 bytes")
    (cond (eqb n 13) (ascii "bytes come after the finish")
    (ascii "an element closes that is no master"))))

-- what 14 to 18 mean: the header of an element
unfoldable pub header_meaning : ℕ → List ℕ
header_meaning n =
    cond (eqb n 14) (ascii "the size of the element is damaged")
    (cond (eqb n 15) (ascii "the table has no such element")
    (cond (eqb n 16) (ascii "the element does not belong here")
    (cond (eqb n 17) (ascii "the element is too large")
    (ascii "the element ends past the end of its master"))))

-- what 19 to 23 mean: what stands behind the header
unfoldable pub content_meaning : ℕ → List ℕ
content_meaning n =
    cond (eqb n 19) (ascii "32 masters are open already")
    (cond (eqb n 20) (ascii "the text is not UTF-8")
    (cond (eqb n 21) (ascii "the float has neither 0, 4 nor 8 bytes")
    (ascii "the input ends inside an element")))

-- what 80 and 81 mean: a header that only the strict reading refuses
unfoldable pub strict_meaning : ℕ → List ℕ
strict_meaning n =
    cond (eqb n 80) (ascii "the ID has a wrong form or over 4 bytes")
    (ascii "the header ends past the end of its master")

-- what a refusal means
unfoldable pub meaning : ℕ → List ℕ
meaning n =
    cond (ltb n 14) (inner_meaning n)
    (cond (ltb n 19) (header_meaning n)
    (cond (ltb n 24) (content_meaning n)
    (cond (ltb n 80) (inner_meaning n)
    (strict_meaning n))))
