-- What a runner means.
--   RunnerState   a source's state and the three numbers: cases, regenerations left, rejections left
--   run           the state of a runner, given what a source's state is
--   advanced      the runner after one word was taken
--   cloned        what a partial clone gives: the split-off source, the numbers copied
--   parted        what a partial clone leaves
--   regenerated   the runner after it was asked for a regeneration: one less, where one was left
--   rejection     the answer to a rejection: refused where none is left
--   rejected      the runner after a rejection: one less, where one was left

use Rattle.std.specs.Prelude.{ℕ, ◌-◌, cond, Ok, Err, Result, nat_lt}
use Rattle.draws.specs.Sources.{Words, after}
use Rattle.draws.specs.declared.faults.RejectFault.{RejectFault}
use Rattle.draws.specs.declared.faults.RejectFault.TheVariants.{NoneLeft}
use Rattle.draws.specs.declared.test_runner.TestRunner.{TestRunner}

pub record RunnerState (S : Type 0) : Type 0 where
  pub source : S
  pub cases : ℕ
  pub regenerations : ℕ
  pub rejections : ℕ

abbrev pub run : {D S : Type 0} → (D → S) → TestRunner D → RunnerState S
run state r = record { source = state r.source; cases = r.cases; regenerations = r.regenerations; rejections = r.rejections }

abbrev pub with_source : {S : Type 0} → RunnerState S → S → RunnerState S
with_source r s = record { source = s; cases = r.cases; regenerations = r.regenerations; rejections = r.rejections }

abbrev pub advanced : {S : Type 0} → Words S → RunnerState S → RunnerState S
advanced w r = with_source r (after w r.source)

abbrev pub cloned : {S : Type 0} → Words S → RunnerState S → RunnerState S
cloned w r = with_source r (w.split r.source).child

abbrev pub parted : {S : Type 0} → Words S → RunnerState S → RunnerState S
parted w r = with_source r (w.split r.source).rest

abbrev pub regenerated : {S : Type 0} → RunnerState S → RunnerState S
regenerated r = record { source = r.source; cases = r.cases; regenerations = r.regenerations - 1; rejections = r.rejections }

abbrev pub rejection : ℕ → Result (Unit {0}) RejectFault
rejection n = cond (nat_lt 0 n) (Ok tt) (Err NoneLeft)

abbrev pub rejected : {S : Type 0} → RunnerState S → RunnerState S
rejected r = record { source = r.source; cases = r.cases; regenerations = r.regenerations; rejections = r.rejections - 1 }
