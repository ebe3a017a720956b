use Rattle.std.proofs.Common.{◌≡◌, ℕ, zero, suc, ◌<◌, ◌≤◌, List, [], ◌∷◌, map, length, get_or, set, Err, refl, ap, arith}
use Rattle.draws.specs.Runners.{RunnerState, run}
use Rattle.meaning.specs.Growths.{Grown, Outcome, Grows, too_few_slots}
use Rattle.meaning.specs.Tables.{beside, in_front, grow_at}
use Rattle.tables.proofs.slice_table.SliceStrategyTableStrategy.grow_at.Goals as goal

module _ {X Y S : Type 0} (state : Y → S) (g : Grows X S) (r : RunnerState X) where
  grown_slot : (xs : List Y) (i : ℕ) (e v : Y) (a : Grown) (r' : RunnerState X) → i < length xs → record { answer = a; runner = r'; place = state v } ≡ g r (state (get_or xs i e)) → record { answer = a; runner = r'; place = map state (set xs i v) } ≡ grow_at g i r (map state xs)
  grown_slot [] i e v a r' h q = absurd (omega (arith, h))
  grown_slot (x ∷ xs) zero e v a r' h q = ap (λ (o : Outcome _ S). in_front o (map state xs)) q
  grown_slot (x ∷ xs) (suc i) e v a r' h q = ap (λ (o : Outcome _ (List S)). beside (state x) o) (grown_slot xs i e v a r' (omega (arith, h)) q)

  grown_past : (xs : List Y) (i : ℕ) → length xs ≤ i → record { answer = Err too_few_slots; runner = r; place = map state xs } ≡ grow_at g i r (map state xs)
  grown_past [] i h = refl
  grown_past (x ∷ xs) zero h = absurd (omega (arith, h))
  grown_past (x ∷ xs) (suc i) h = ap (λ (o : Outcome _ (List S)). beside (state x) o) (grown_past xs i (omega (arith, h)))

pub returns-then-i-table : goal.returns-then-i-table
returns-then-i-table g c = rw c.too_few_slots.ensures (grown_past g.S.Tree.ValueTree.state (g.S.Tree.ValueTree.grows c.args.self.now.element g.D.Source.State g.D.Source.words) (run g.D.Source.state c.args.runner.now) c.args.table.now.slots.now c.args.i c.if-i-table.true)

pub returns : goal.returns
returns g c = grown_slot g.S.Tree.ValueTree.state (g.S.Tree.ValueTree.grows c.args.self.now.element g.D.Source.State g.D.Source.words) (run g.D.Source.state c.args.runner.now) _ _ _ _ _ _ c.if-i-table.false c.new_tree.ensures
