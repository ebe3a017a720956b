-- A line's value, before it is read.
use Rattle.std.proofs.Common.{◌≡◌, ℕ, List, Some, None, Option, sym, refl, ap}
use Rattle.std.proofs.lemmas.Option.{same_Some}
use Rattle.plan.specs.Lines.{Line}
use Rattle.plan.specs.Lines.Line.{low, high, draws, steps, wrong}
use Rattle.plan.specs.Plans.{by_kind, unread, draws_in, steps_in}
use Rattle.plan.specs.Values.{draws_of, steps_of}
use Rattle.plan.proofs.Spelling.{none_some}

-- the value of a line of draws, and of steps; none of any other line
abbrev pub draws_value : Line → Option (List ℕ)
draws_value = by_kind unread unread (λ v. Some v) unread

abbrev pub steps_value : Line → Option (List ℕ)
steps_value = by_kind unread unread unread (λ v. Some v)

pub no_draws : (l : Line) → None ≡ draws_value l → draws_in l ≡ None
no_draws (low k v) e = refl
no_draws (high k v) e = refl
no_draws (draws k v) e = none_some v e
no_draws (steps k v) e = refl
no_draws wrong e = refl

pub draws_at : (l : Line) (v : List ℕ) → Some v ≡ draws_value l → draws_in l ≡ draws_of v
draws_at (draws k w) v e = ap draws_of (sym (same_Some v w e))
draws_at (low k w) v e = none_some v (sym e)
draws_at (high k w) v e = none_some v (sym e)
draws_at (steps k w) v e = none_some v (sym e)
draws_at wrong v e = none_some v (sym e)

pub no_steps : (l : Line) → None ≡ steps_value l → steps_in l ≡ None
no_steps (low k v) e = refl
no_steps (high k v) e = refl
no_steps (draws k v) e = refl
no_steps (steps k v) e = none_some v e
no_steps wrong e = refl

pub steps_at : (l : Line) (v : List ℕ) → Some v ≡ steps_value l → steps_in l ≡ steps_of v
steps_at (steps k w) v e = ap steps_of (sym (same_Some v w e))
steps_at (low k w) v e = none_some v (sym e)
steps_at (high k w) v e = none_some v (sym e)
steps_at (draws k w) v e = none_some v (sym e)
steps_at wrong v e = none_some v (sym e)
