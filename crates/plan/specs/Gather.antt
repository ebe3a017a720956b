-- Lists that are read item by item.
--     first_of y ys      an item that was read in front of the others; none where one of the two is none
--     each read xs       what the items read as; none where one of them does not read
--     at_most most xs    the list, where it has no more items than that
use Rattle.std.specs.Prelude.{ℕ, cond, List, [], ◌∷◌, length, Some, None, Option, nat_le}

abbrev pub first_of : {A : Type 0} → Option A → Option (List A) → Option (List A)
first_of None ys = None
first_of (Some y) None = None
first_of (Some y) (Some ys) = Some (y ∷ ys)

abbrev pub each : {A B : Type 0} → (A → Option B) → List A → Option (List B)
each read [] = Some []
each read (x ∷ xs) = first_of (read x) (each read xs)

abbrev pub at_most : {A : Type 0} → ℕ → Option (List A) → Option (List A)
at_most most None = None
at_most most (Some xs) = cond (nat_le (length xs) most) (Some xs) None
