-- The members of a vector by their numbers.
--   numbers   the numbers of the members among elements of which the first has number i

use Rattle.std.specs.Prelude.{ℕ, suc, Bool, true, false, List, [], ◌∷◌}

abbrev pub numbers : ℕ → List Bool → List ℕ
numbers i [] = []
numbers i (true ∷ bs) = i ∷ numbers (suc i) bs
numbers i (false ∷ bs) = numbers (suc i) bs
