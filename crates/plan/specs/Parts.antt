-- A text cut at a mark, which is one byte.
--     behind b parts      the parts with the byte b put in front
--     cut mark text       what stands before the text's first mark, and after it; none where it has no mark
--     pieces mark text    the text cut at every mark: one piece more than it has marks, and each may be empty
use Rattle.std.specs.Prelude.{ℕ, cond, List, [], ◌∷◌, Some, None, Option, ◌==◌}
use Rattle.std.specs.List.{slice_split}

abbrev pub behind : ℕ → Option (List ℕ × List ℕ) → Option (List ℕ × List ℕ)
behind b None = None
behind b (Some p) = Some (b ∷ p.0, p.1)

abbrev pub cut : ℕ → List ℕ → Option (List ℕ × List ℕ)
cut mark [] = None
cut mark (b ∷ bs) = cond (b == mark) (Some ([], bs)) (behind b (cut mark bs))

abbrev pub pieces : ℕ → List ℕ → List (List ℕ)
pieces mark text = slice_split (λ b. b == mark) text
