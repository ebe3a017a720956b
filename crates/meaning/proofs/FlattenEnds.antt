-- A flatten's steps back fall with complicate, at every state.
--   flat_ends    where those of its source and of its tree do
--   flat_total   a flatten is total where its source and its tree are

use Rattle.std.proofs.Common.{ℕ, zero, suc, ◌+◌, ◌*◌, ◌<◌, ◌≤◌, Bool, true, false, cond, [], Some, None, Option, le_refl, mul-le-mul_left, mul-suc, arith}
use Rattle.meaning.specs.Trees.{Stepped, Steps, Falls, Ends, Total}
use Rattle.meaning.specs.PlaceLaws.{always, placed_total}
use Rattle.meaning.specs.Fuses.{FuseTree, fuse_steps}
use Rattle.meaning.specs.Offers.{asked}
use Rattle.meaning.specs.Offers.Request.{spend}
use Rattle.meaning.specs.Flattens.{FlatTree, with_trees, with_final, with_runner, moves, at_last, offered, renewed, returning, further, once_more, regenerating, flat_back, bare_flat, flat_steps}
use Rattle.meaning.proofs.FuseLaws.{fuse_total}

-- one step back more of the source is a round of regenerations and the step that allows them
round_more : (cases fewer more : ℕ) → fewer < more → (cases + 1) * fewer + (cases + 1) ≤ (cases + 1) * more
round_more cases fewer more less = rw mul-suc at (mul-le-mul_left (cases + 1) less)

module _ {M S J I : Type 0} (source : Steps M J) (t : Steps S I) where
  abbrev back : FlatTree M S J → ℕ
  back = flat_back source t

  abbrev FallsFrom : ℕ → Stepped (FlatTree M S J) → Type 0
  FallsFrom before r = Falls before r.answer (back r.tree)

  last_falls : (before : ℕ) (x : FlatTree M S J) (final : Option (FuseTree S)) → back (with_final x final) ≤ before → FallsFrom before (at_last (with_final x final) final)
  last_falls before x None less = less
  last_falls before x (Some final) less = omega arith

  -- the source was complicated, so that its rounds are one less
  returning_falls : (before : ℕ) (x : FlatTree M S J) (gave : Option S) → back x + (x.cases + 1) ≤ before → FallsFrom before (returning source x gave)
  returning_falls before x None less = last_falls before (renewed source x x.current x.remaining) x.final_complication (omega arith)
  returning_falls before x (Some new) less = omega arith

  -- by the answers of current and of the source, and the trees that they leave
  answered_falls : (before : ℕ) (x : FlatTree M S J) (m : FuseTree M) (c : FuseTree S) (c-answer m-answer : Bool) → back x ≤ before →
      Falls ((fuse_steps t).back x.current) c-answer ((fuse_steps t).back c) → Falls ((fuse_steps source).back x.meta) m-answer ((fuse_steps source).back m) →
      (let y : FlatTree M S J = with_trees x m c in FallsFrom before (cond c-answer (moves (with_trees x x.meta c)) (cond m-answer (returning source y (offered source y)) (at_last y y.final_complication))))
  answered_falls before x m c true m-answer less c-falls m-falls = omega arith
  answered_falls before x m c false true less c-falls m-falls =
      let round = round_more x.cases ((fuse_steps source).back m) ((fuse_steps source).back x.meta) m-falls in
      returning_falls before (with_trees x m c) (offered source (with_trees x m c)) (omega arith)
  answered_falls before x m c false false less c-falls m-falls =
      let rounds = mul-le-mul_left (x.cases + 1) m-falls in
      last_falls before (with_trees x m c) x.final_complication (omega arith)

  module _ (source-total : Total source) (total : Total t) where
    further_falls : (before : ℕ) (x : FlatTree M S J) → back x ≤ before → FallsFrom before (further source t x)
    further_falls before x less =
        let c = (fuse_steps t).complicate x.current in
        let m = (fuse_steps source).complicate x.meta in
        answered_falls before x m.tree c.tree c.answer m.answer less ((fuse_total total).ends x.current) ((fuse_total source-total).ends x.meta)

    once_more_falls : (before : ℕ) (x : FlatTree M S J) (gave : Option S) → back x < before → FallsFrom before (once_more source t x gave)
    once_more_falls before x None less = further_falls before (renewed source x x.current x.remaining) (omega arith)
    once_more_falls before x (Some new) less = omega arith

    regenerating_falls : (x : FlatTree M S J) (remaining : ℕ) → (let now : FlatTree M S J = with_runner x x.runner remaining in FallsFrom (back now) (regenerating source t now remaining))
    regenerating_falls x zero = further_falls (back (with_runner x x.runner 0)) (with_runner x x.runner 0) (le_refl _)
    regenerating_falls x (suc fewer) = by (x.runner []).regenerates
      where
        before : ℕ
        before = back (with_runner x x.runner (suc fewer))

        spent : ℕ → FlatTree M S J
        spent remaining = with_runner x (asked x.runner spend) remaining

        by : (regenerates : Bool) → FallsFrom before (cond regenerates (once_more source t (spent fewer) (offered source (spent fewer))) (further source t (spent 0)))
        by true = once_more_falls before (spent fewer) (offered source (spent fewer)) (omega arith)
        by false = further_falls before (spent 0) (omega arith)

    pub flat_ends : (x : FlatTree M S J) → Ends (always (bare_flat source t)) x
    flat_ends x = regenerating_falls x x.remaining

pub flat_total : {M S J I : Type 0} {source : Steps M J} {t : Steps S I} → Total source → Total t → Total (flat_steps {J = J} source t)
flat_total {M} {S} {J} {I} {source} {t} source-total total = placed_total (bare_flat source t) (flat_ends source t source-total total)
