-- A write into the part of a buffer that begins at a place, read as a write into the whole.
use Rattle.std.proofs.Common.{◌≡◌, ℕ, ◌-◌, ◌≤◌, List, [], length, take, drop, refl, arith, length-drop}
use borrow.Rule.Slice.PartMut.{put_mid}
use Rattle.std.proofs.lemmas.List.{append-nil, take_rest, drop_all}
use Rattle.buffers.specs.Over.{over, over_from}

-- `&out[at..]` as the checker reads it
abbrev pub part : List ℕ → ℕ → List ℕ
part out at = take (length out - at) (drop at out)

pub over_part : (at : ℕ) (out xs : List ℕ) → at ≤ length out
    → put_mid at (length out - at) out (over xs (part out at)) ≡ over_from at xs out
over_part at out xs inside =
    let none : drop (length out - at) (drop at out) ≡ [] = drop_all (length out - at) (drop at out) (simp length-drop (omega arith)) in
    simp (take_rest, none, append-nil) refl
