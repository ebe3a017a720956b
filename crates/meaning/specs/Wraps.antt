-- Growing a tree inside a wrapper, in the same place.
--   Wrap         how a wrapper W holds a tree S: the tree inside; the wrapper with another tree inside and nothing else
--                changed; the wrapper that a strategy Q makes of a tree just grown
--   wrapped      what a growth inside gives: a fresh wrapper where it was accepted; refused, only the inside changes
--   wrap_growth  growing inside a wrapper

use Rattle.std.specs.Prelude.{Ok, Err}
use Rattle.meaning.specs.Growths.{Grown, Outcome, Growth}

pub record Wrap (Q S W : Type 0) : Type 0 where
  pub inside : W → S
  pub replaced : W → S → W
  pub fresh : Q → S → W

abbrev pub wrapped : {X S W : Type 0} → (fresh replaced : S → W) → Outcome X S → Grown → Outcome X W
wrapped fresh replaced o (Ok _) = record { answer = Ok tt; runner = o.runner; place = fresh o.place }
wrapped fresh replaced o (Err fault) = record { answer = Err fault; runner = o.runner; place = replaced o.place }

abbrev pub wrap_growth : {Q S W : Type 0} → Wrap Q S W → Growth Q S → Growth Q W
wrap_growth wrap g q X w r s = wrapped (wrap.fresh q) (wrap.replaced s) (g q X w r (wrap.inside s)) (g q X w r (wrap.inside s)).answer
