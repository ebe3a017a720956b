-- Lines as they are read, computed from the definitions.
use Rattle.std.proofs.Common.{◌≡◌, true, false, [], ◌∷◌, codes, refl}
use Rattle.std.specs.Fmt.{digits}
use Rattle.lines.specs.Lines.{line_bytes, page}
use Rattle.lines.specs.Lines.Said.{view, simplified, complicated, refused, refused_at}

pub items : line_bytes (view (18446744073709551615 ∷ 0 ∷ 10 ∷ [])) ≡ codes "v 18446744073709551615 0 10\n"
unfolding digits
items = refl

pub lines : page (view [] ∷ simplified true ∷ complicated false ∷ refused 5 ∷ refused_at 10 3 ∷ [])
    ≡ codes "v\ns 1\nc 0\nrefused 5\nrefused 10 3\n"
unfolding digits
lines = refl
