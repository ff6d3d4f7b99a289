-- A verdict as numbers, for C.
use Rattle.std.specs.Prelude.{ℕ, None, Option, Some}
use Rattle.whole.specs.declared.types.Root.{Root}
use Rattle.whole.specs.declared.types.Verdict.{Verdict}
use Rattle.whole.specs.declared.types.Verdict.TheVariants as verdict
use Rattle.whole.specs.declared.types.VerdictNumbers.{VerdictNumbers}

-- 1 where there is a size, else 0
abbrev pub size_named : Option ℕ → ℕ
size_named None = 0
size_named (Some n) = 1

-- the size, or 0 where there is none
abbrev pub size_number : Option ℕ → ℕ
size_number None = 0
size_number (Some n) = n

-- the verdict of the number v with k records, n feeds and m bytes, with the number r of a refusal and with the place p;
-- of the root, where one is named, its ID, its start and its size
abbrev pub numbers_of : ℕ → ℕ → ℕ → ℕ → ℕ → ℕ → Option Root → VerdictNumbers
numbers_of v k n m r p None = record {
  verdict = v;
  feeds = n;
  records = k;
  bytes = m;
  number = r;
  place = p;
  root_named = 0;
  root_id = 0;
  root_start = 0;
  root_size_named = 0;
  root_size = 0;
}
numbers_of v k n m r p (Some root) = record {
  verdict = v;
  feeds = n;
  records = k;
  bytes = m;
  number = r;
  place = p;
  root_named = 1;
  root_id = root.id;
  root_start = root.start;
  root_size_named = size_named root.size;
  root_size = size_number root.size;
}

-- the numbers of a verdict: its own, its records, feeds and bytes, a refusal's number, a place and a root
abbrev pub verdict_numbers : Verdict → VerdictNumbers
verdict_numbers (verdict.Whole n m) = numbers_of 1 1 n m 0 0 None
verdict_numbers verdict.Empty = numbers_of 2 0 0 0 0 0 None
verdict_numbers verdict.FrontMissing = numbers_of 3 0 0 0 0 0 None
verdict_numbers (verdict.Refused r p) = numbers_of 4 0 0 0 r p None
verdict_numbers (verdict.TooLarge p) = numbers_of 5 0 0 0 0 p None
verdict_numbers (verdict.Cut p root m) = numbers_of 6 0 0 m 0 p root
verdict_numbers (verdict.CannotTell x b) = numbers_of 7 0 0 0 0 0 (Some (record { id = x; start = b; size = None }))
verdict_numbers (verdict.More k n m) = numbers_of 8 k n m 0 0 None
verdict_numbers verdict.NotEnded = numbers_of 9 0 0 0 0 0 None
