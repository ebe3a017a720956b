-- The refusals of making a strategy.
--   strategy_number   the number of a refused strategy: a size that is too large, a stated longest that is too long

use Rattle.std.specs.Prelude.{ℕ}
use Rattle.meaning.specs.declared.traits.StrategyFault.{StrategyFault}
use Rattle.meaning.specs.declared.traits.StrategyFault.TheVariants.{TooLarge, TooLong}

abbrev pub strategy_number : StrategyFault → ℕ
strategy_number TooLarge = 2
strategy_number TooLong = 4
