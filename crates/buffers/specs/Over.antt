-- What a buffer holds after a write into it.
--
--   over xs bs           bs with its first items replaced by xs, as far as bs goes
--   over_from at xs bs   bs with its items from the place `at` on replaced by xs, as far as bs goes
--   laid xs bs           `over`, where bs has room for all of xs, and else bs as it was
--   laid_from at xs bs   `over_from`, where bs has room for all of xs behind `at`, and else bs as it was
use Rattle.std.specs.Prelude.{List, [], ◌∷◌, ◌++◌, cond, ℕ, ◌+◌, leb, length, take, drop}

abbrev pub over : {A : Type 0} → List A → List A → List A
over [] bs = bs
over (x ∷ xs) [] = []
over (x ∷ xs) (b ∷ bs) = x ∷ over xs bs

abbrev pub over_from : {A : Type 0} → ℕ → List A → List A → List A
over_from at xs bs = take at bs ++ over xs (drop at bs)

abbrev pub laid : {A : Type 0} → List A → List A → List A
laid xs bs = cond (leb (length xs) (length bs)) (over xs bs) bs

abbrev pub laid_from : {A : Type 0} → ℕ → List A → List A → List A
laid_from at xs bs = cond (leb (at + length xs) (length bs)) (over_from at xs bs) bs
