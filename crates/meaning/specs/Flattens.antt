-- The flatten: a tree that is grown by what a chooser gives for the candidate of another tree, its source.
--   FlatTree         the source (meta); the tree that is shown (current); the tree to which complicate comes at last, if one is
--                    kept (final_complication); the runner; how many regenerations complicate may still ask for (remaining) and
--                    how many each newly chosen strategy gets (cases); the longest. All three trees are fused
--   alone            a flatten that shows a tree which alone leads back: nothing is kept for the last, no regeneration remains, and
--                    the source can't complicate until it simplifies again
--   renewed          a flatten after regrowth for the source's candidate, which goes into a copy of current
--   led_home         a tree after complicate was called until it answered false
--   flat_simplify    current is simplified, and alone leads back then; else the source, and current is kept for the last while
--                    another is grown for the source. Where that is refused the source is led home, and the answer is false
--   flat_complicate  another is grown in place of current while regenerations remain; else current is complicated; else the
--                    source, and another is grown for it; else what was kept for the last is taken, and alone leads back
--   flat_steps       the steps of a flatten's place. The home is what was kept for the last, or else current's. The steps back are
--                    those of current, what remains, a round of regenerations for each of the source's, and what was kept
--   Chooser          what a strategy Q chooses: the strategy for a list, the places that have too few slots for it whatever the
--                    list, and the longest that it states
--   flat_growth      the source grows, then what is chosen for its candidate; only then a runner is split off for the tree
--   flat_short       too few slots for the source, or for what is chosen

use Rattle.std.specs.Prelude.{ℕ, zero, suc, ◌+◌, ◌*◌, Bool, true, false, cond, List, [], Some, None, Ok, Err, Option}
use Rattle.draws.specs.Sources.{Words}
use Rattle.draws.specs.Runners.{RunnerState, cloned, parted}
use Rattle.meaning.specs.Trees.{Stepped, stays, Steps}
use Rattle.meaning.specs.Places.{Bare, Place, placed}
use Rattle.meaning.specs.Growths.{Grown, Outcome, Grows, Growth}
use Rattle.meaning.specs.GrowthLaws.{unless_no_slots}
use Rattle.meaning.specs.Offers.{Request, Offers, asked, offers_of}
use Rattle.meaning.specs.Offers.Request.{regrow, spend}
use Rattle.meaning.specs.Fuses.{FuseTree, fuse_replaced, fused, disallow_complicate, fuse_steps}
use Rattle.meaning.specs.Sifters.{settled}

pub record FlatTree (M S J : Type 0) : Type 0 where
  pub meta : FuseTree M
  pub current : FuseTree S
  pub final_complication : Option (FuseTree S)
  pub runner : Offers J S
  pub remaining : ℕ
  pub cases : ℕ
  pub longest : ℕ

-- a flatten with other trees, another final complication, another runner
abbrev pub with_trees : {M S J : Type 0} → FlatTree M S J → FuseTree M → FuseTree S → FlatTree M S J
with_trees x meta current = record { meta = meta; current = current; final_complication = x.final_complication; runner = x.runner; remaining = x.remaining; cases = x.cases; longest = x.longest }

abbrev pub with_final : {M S J : Type 0} → FlatTree M S J → Option (FuseTree S) → FlatTree M S J
with_final x final = record { meta = x.meta; current = x.current; final_complication = final; runner = x.runner; remaining = x.remaining; cases = x.cases; longest = x.longest }

abbrev pub with_runner : {M S J : Type 0} → FlatTree M S J → Offers J S → ℕ → FlatTree M S J
with_runner x runner remaining = record { meta = x.meta; current = x.current; final_complication = x.final_complication; runner = runner; remaining = remaining; cases = x.cases; longest = x.longest }

-- a step that answers true
abbrev pub moves : {S : Type 0} → S → Stepped S
moves s = record { answer = true; tree = s }

-- a tree that was just grown, fused
-- no candidate is accepted on the way
abbrev pub led_home : {S I : Type 0} → Steps S I → S → S
led_home t = settled t (λ items. false)

abbrev pub alone : {M S J : Type 0} → FlatTree M S J → FuseTree S → FlatTree M S J
alone x current = with_runner (with_final (with_trees x (disallow_complicate x.meta) current) None) x.runner 0

-- what was kept for the last, if anything
abbrev pub at_last : {M S J : Type 0} → FlatTree M S J → Option (FuseTree S) → Stepped (FlatTree M S J)
at_last x None = stays x
at_last x (Some final) = moves (alone x final)

module _ {M S J : Type 0} (source : Steps M J) where
  -- growing for the source's candidate into a copy of current: the request, and what it gives
  abbrev pub wanted : FlatTree M S J → Request J S
  wanted x = regrow (source.candidate x.meta.inner) x.current.inner

  abbrev pub offered : FlatTree M S J → Option S
  offered x = (x.runner []).grows (source.candidate x.meta.inner) x.current.inner

  abbrev pub renewed : FlatTree M S J → FuseTree S → ℕ → FlatTree M S J
  renewed x current remaining = with_runner (with_trees x x.meta current) (asked x.runner (wanted x)) remaining

  -- the source was simplified, and regrowth gave this
  abbrev pub another : FlatTree M S J → Option S → Stepped (FlatTree M S J)
  another x (Some new) = moves (with_final (renewed x (fused new) x.cases) (Some (disallow_complicate x.current)))
  another x None = stays (with_trees (renewed x x.current 0) (led_home (fuse_steps source) x.meta) x.current)

  -- the source was complicated, and regrowth gave this
  abbrev pub returning : FlatTree M S J → Option S → Stepped (FlatTree M S J)
  returning x (Some new) = moves (renewed x (fused new) x.cases)
  returning x None = at_last (renewed x x.current x.remaining) x.final_complication

module _ {M S J I : Type 0} (source : Steps M J) (t : Steps S I) where
  abbrev pub flat_simplify : FlatTree M S J → Stepped (FlatTree M S J)
  flat_simplify x =
      let c = (fuse_steps t).simplify x.current in
      let m = (fuse_steps source).simplify x.meta in
      let y = with_runner (with_trees x m.tree c.tree) x.runner 0 in
      cond c.answer (moves (alone x c.tree)) (cond m.answer (another source y (offered source y)) (stays y))

  -- complicate, after the regenerations
  abbrev pub further : FlatTree M S J → Stepped (FlatTree M S J)
  further x =
      let c = (fuse_steps t).complicate x.current in
      let m = (fuse_steps source).complicate x.meta in
      let y = with_trees x m.tree c.tree in
      cond c.answer (moves (with_trees x x.meta c.tree)) (cond m.answer (returning source y (offered source y)) (at_last y y.final_complication))

  -- a regeneration was used, and regrowth gave this
  abbrev pub once_more : FlatTree M S J → Option S → Stepped (FlatTree M S J)
  once_more x (Some new) = moves (renewed source x (fused new) x.remaining)
  once_more x None = further (renewed source x x.current x.remaining)

  -- complicate, with so many regenerations remaining
  abbrev pub regenerating : FlatTree M S J → ℕ → Stepped (FlatTree M S J)
  regenerating x zero = further x
  regenerating x (suc fewer) =
      let y = with_runner x (asked x.runner spend) fewer in
      cond (x.runner []).regenerates (once_more y (offered source y)) (further (with_runner y y.runner 0))

  abbrev pub flat_complicate : FlatTree M S J → Stepped (FlatTree M S J)
  flat_complicate x = regenerating x x.remaining

abbrev pub flat_home : {S I : Type 0} → Steps S I → FuseTree S → Option (FuseTree S) → List I
flat_home t current None = (fuse_steps t).home current
flat_home t current (Some final) = (fuse_steps t).candidate final

abbrev pub final_back : {S I : Type 0} → Steps S I → Option (FuseTree S) → ℕ
final_back t None = 0
final_back t (Some final) = suc ((fuse_steps t).back final)

abbrev pub flat_back : {M S J I : Type 0} → Steps M J → Steps S I → FlatTree M S J → ℕ
flat_back source t x = (fuse_steps t).back x.current + (x.remaining + ((x.cases + 1) * (fuse_steps source).back x.meta + final_back t x.final_complication))

abbrev pub bare_flat : {M S J I : Type 0} → Steps M J → Steps S I → Bare (FlatTree M S J) I
bare_flat source t = record {
  candidate = λ x. (fuse_steps t).candidate x.current;
  home = λ x. flat_home t x.current x.final_complication;
  back = flat_back source t;
  longest = λ x. x.longest;
  simplify = flat_simplify source t;
  complicate = flat_complicate source t;
}

abbrev pub flat_steps : {M S J I : Type 0} → Steps M J → Steps S I → Steps (Place (FlatTree M S J)) I
flat_steps source t = placed (bare_flat source t)

pub record Chooser (Q J P S : Type 0) : Type 0 where
  pub choose : Q → List J → P
  pub lacks_slots : Q → S → Bool
  pub longest : Q → ℕ

-- after current: a runner is split off, or the place is blank over what the refused growth left
abbrev pub current_grown : {X M S J : Type 0} → Words X → (RunnerState X → Offers J S) → ℕ → FlatTree M S J → Outcome X S → Grown → Outcome X (Place (FlatTree M S J))
current_grown w offers longest x o (Ok _) = record { answer = Ok tt; runner = parted w o.runner; place = record { grown = true; tree = record { meta = x.meta; current = fused o.place; final_complication = None; runner = offers (cloned w o.runner); remaining = 0; cases = o.runner.cases; longest = longest } } }
current_grown w offers longest x o (Err fault) = record { answer = Err fault; runner = o.runner; place = record { grown = false; tree = with_trees x x.meta (fuse_replaced x.current o.place) } }

-- after the source: current grows by what is chosen for its candidate
abbrev pub source_grown : {X M S J P : Type 0} → Steps M J → Words X → (List J → P) → (P → Grows X S) → ℕ → FlatTree M S J → Outcome X M → Grown → Outcome X (Place (FlatTree M S J))
source_grown source w choose grow longest x o (Ok _) =
    let chosen = grow (choose (source.candidate o.place)) o.runner x.current.inner in
    current_grown w (offers_of choose grow) longest (with_trees x (fused o.place) x.current) chosen chosen.answer
source_grown source w choose grow longest x o (Err fault) = record { answer = Err fault; runner = o.runner; place = record { grown = false; tree = with_trees x (fuse_replaced x.meta o.place) x.current } }

abbrev pub flat_short : {M S J N P Q : Type 0} → (Q → N) → Chooser Q J P S → (N → M → Bool) → Q → Place (FlatTree M S J) → Bool
flat_short under chooser short q p = cond (short (under q) p.tree.meta.inner) true (chooser.lacks_slots q p.tree.current.inner)

abbrev pub flat_grows : {M S J N P Q : Type 0} → Steps M J → (Q → N) → Chooser Q J P S → Growth N M → Growth P S → Growth Q (Place (FlatTree M S J))
flat_grows source under chooser gm g q X w r p =
    let o = gm (under q) X w r p.tree.meta.inner in
    source_grown source w (chooser.choose q) (λ chosen. g chosen X w) (chooser.longest q) p.tree o o.answer

abbrev pub flat_growth : {M S J N P Q : Type 0} → Steps M J → (Q → N) → Chooser Q J P S → (N → M → Bool) → Growth N M → Growth P S → Growth Q (Place (FlatTree M S J))
flat_growth source under chooser short gm g = unless_no_slots (flat_short under chooser short) (flat_grows source under chooser gm g)
