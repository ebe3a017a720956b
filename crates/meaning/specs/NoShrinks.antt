-- NoShrink: a tree that shows what the tree inside does, and never changes it. Its states are those of the tree inside.
--   no_shrink_steps    both steps answer false; the candidate is its own home
--   no_shrink_growth   growth is that of the tree inside

use Rattle.meaning.specs.Trees.{stays, Steps}
use Rattle.meaning.specs.Growths.{Growth}

abbrev pub no_shrink_steps : {S I : Type 0} → Steps S I → Steps S I
no_shrink_steps t = record {
  grown = t.grown;
  candidate = t.candidate;
  home = t.candidate;
  back = λ s. 0;
  longest = t.longest;
  blank = t.blank;
  simplify = λ s. stays s;
  complicate = λ s. stays s;
}

abbrev pub no_shrink_growth : {S P Q : Type 0} → (Q → P) → Growth P S → Growth Q S
no_shrink_growth under g q = g (under q)
