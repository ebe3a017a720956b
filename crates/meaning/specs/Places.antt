-- A place: where a tree grows. It is blank, or holds the tree that was grown there.
--   Bare     the readings and steps of a kind of tree, with no thought of being blank
--   Place    a tree, and whether it is grown
--   placed   the steps of a place: those of the tree where it is grown; blank, it shows the empty candidate, answers
--            false to both steps, and states the longest 0

use Rattle.std.specs.Prelude.{ℕ, Bool, true, false, cond, List, []}
use Rattle.meaning.specs.Trees.{Stepped, stays, Steps}

pub record Bare (B I : Type 0) : Type 0 where
  pub candidate : B → List I
  pub home : B → List I
  pub back : B → ℕ
  pub longest : B → ℕ
  pub simplify : B → Stepped B
  pub complicate : B → Stepped B

pub record Place (B : Type 0) : Type 0 where
  pub grown : Bool
  pub tree : B

abbrev pub grown_step : {B : Type 0} → Stepped B → Stepped (Place B)
grown_step b = record { answer = b.answer; tree = record { grown = true; tree = b.tree } }

abbrev pub placed : {B I : Type 0} → Bare B I → Steps (Place B) I
placed t = record {
  grown = λ p. p.grown;
  candidate = λ p. cond p.grown (t.candidate p.tree) [];
  home = λ p. cond p.grown (t.home p.tree) [];
  back = λ p. cond p.grown (t.back p.tree) 0;
  longest = λ p. cond p.grown (t.longest p.tree) 0;
  blank = λ p. record { grown = false; tree = p.tree };
  simplify = λ p. cond p.grown (grown_step (t.simplify p.tree)) (stays p);
  complicate = λ p. cond p.grown (grown_step (t.complicate p.tree)) (stays p);
}
