-- When a union is sound.
--   home_pick     the option at which the union is at home: the one it left, or the pick
--   UnionSound    the options up to that one are sound and state no more than the union; it and the pick are grown; the pick
--                 lies from the lowest to it
--   union_sound   a union's place is blank, or the union is sound

use Rattle.std.specs.Prelude.{◌≡◌, ℕ, ◌≤◌, true, Some, None, Option}
use Rattle.meaning.specs.Trees.{Steps}
use Rattle.meaning.specs.Places.{Place}
use Rattle.meaning.specs.PlaceLaws.{WhereGrown}
use Rattle.meaning.specs.Unions.{UnionTree}

abbrev pub home_pick : ℕ → Option ℕ → ℕ
home_pick pick None = pick
home_pick pick (Some k) = k

pub record UnionSound {T I : Type 0} (table : ℕ → Steps T I) (sound : ℕ → ℕ → T → Type 0) (u : UnionTree T) : Type 0 where
  pub each : (i : ℕ) → i ≤ home_pick u.pick u.prev_pick → sound u.longest i u.options
  pub lowest : u.min_pick ≤ u.pick
  pub below : u.pick ≤ home_pick u.pick u.prev_pick
  pub shown_grown : (table u.pick).grown u.options ≡ true
  pub home_grown : (table (home_pick u.pick u.prev_pick)).grown u.options ≡ true

abbrev pub union_sound : {T I : Type 0} → (ℕ → Steps T I) → (ℕ → ℕ → T → Type 0) → Place (UnionTree T) → Type 0
union_sound table sound = WhereGrown (UnionSound table sound)
