-- The laws of a lazy option, from those of its tree.
--   by_lazy      what holds of an option that waits, of one that is initialized and of one that failed holds of every option
--   lazy_total   an option is total where its tree is
--   lazy_keeps   it keeps its meaning where its tree does
--   limited_keeps, lazy_limited   the same under a limit on what is stated
--   started_sound   a sound option stays so when it is started
--   lazy_roots   its growth keeps what every growth should, where that of its tree does
--   lazy_accepted, lazy_waits   an option that grew, or that waits, is sound with the limit that its strategy states

use Rattle.std.proofs.Common.{◌≡◌, ℕ, ◌≤◌, Bool, true, false, length, Ok, Err, refl, ap, ◌∙◌, inl, le_refl, arith}
use Rattle.std.proofs.lemmas.Bool.{false≢true}
use Rattle.draws.specs.Sources.{Words}
use Rattle.draws.specs.Runners.{RunnerState}
use Rattle.draws.specs.declared.faults.Cause.TheVariants.{Slots}
use Rattle.draws.specs.declared.faults.GrowFault.{GrowFault}
use Rattle.meaning.specs.Trees.{Stepped, Steps, Ends, SimplifyKept, ComplicateKept, Blank, Total, Keeps}
use Rattle.meaning.specs.Growths.{Grown, Outcome, Growth, Rooted, Roots}
use Rattle.meaning.specs.GrowthLaws.{Grew, unless_roots}
use Rattle.meaning.specs.Lazies.{Lazy, place_of, is_accepted, started_as, lazy_start, lazy_steps, lazy_short, lazy_grows, lazy_growth, lazy_wait}
use Rattle.meaning.specs.Lazies.Lazy.{uninitialized, initialized, failed}
use Rattle.meaning.specs.TableLaws.{Limited}
use Rattle.meaning.specs.LazyLaws.{lazy_sound}

pub by_lazy : {S : Type 0} (Holds : Lazy S → Type 0) → ((s : S) (later : Stepped S) → Holds (uninitialized s later)) → ((s : S) → Holds (initialized s)) → ((s : S) → Holds (failed s)) → (x : Lazy S) → Holds x
by_lazy Holds waits grew fails (uninitialized s later) = waits s later
by_lazy Holds waits grew fails (initialized s) = grew s
by_lazy Holds waits grew fails (failed s) = fails s

pub lazy_total : {S I : Type 0} {t : Steps S I} → Total t → Total (lazy_steps t)
lazy_total {t = t} total = record {
  ends = by_lazy (Ends (lazy_steps t)) (λ s later. le_refl 0) total.ends (λ s. le_refl 0);
  simplify_grown = by_lazy (λ x. (lazy_steps t).grown ((lazy_steps t).simplify x).tree ≡ (lazy_steps t).grown x) (λ s later. refl) total.simplify_grown (λ s. refl);
  complicate_grown = by_lazy (λ x. (lazy_steps t).grown ((lazy_steps t).complicate x).tree ≡ (lazy_steps t).grown x) (λ s later. refl) total.complicate_grown (λ s. refl);
  blank = by_lazy (λ x. (lazy_steps t).grown x ≡ false → Blank (lazy_steps t) x)
      (λ s later e. record { shows_none = refl; home_none = refl; no_back = refl; no_longest = refl; no_simplify = refl; no_complicate = refl })
      (λ s e. let b = total.blank s e in record { shows_none = b.shows_none; home_none = b.home_none; no_back = b.no_back; no_longest = b.no_longest; no_simplify = b.no_simplify; no_complicate = b.no_complicate })
      (λ s e. record { shows_none = refl; home_none = refl; no_back = refl; no_longest = refl; no_simplify = refl; no_complicate = refl });
  blanks = λ x. refl;
}

pub lazy_keeps : {S I : Type 0} {t : Steps S I} {sound : S → Type 0} → Keeps t sound → Keeps (lazy_steps t) (lazy_sound sound)
lazy_keeps {t = t} {sound = sound} keeps = record {
  fits = by_lazy (λ x. lazy_sound sound x → length ((lazy_steps t).candidate x) ≤ (lazy_steps t).longest x) (λ s later is_sound. le_refl 0) keeps.fits (λ s is_sound. le_refl 0);
  simplify = by_lazy (λ x. lazy_sound sound x → SimplifyKept (lazy_steps t) (lazy_sound sound) x ((lazy_steps t).simplify x))
      (λ s later is_sound. (is_sound, (refl, inl refl), refl))
      keeps.simplify
      (λ s is_sound. (tt, (refl, inl refl), refl));
  complicate = by_lazy (λ x. lazy_sound sound x → ComplicateKept (lazy_steps t) (lazy_sound sound) x ((lazy_steps t).complicate x))
      (λ s later is_sound. (is_sound, (refl, refl, refl, le_refl 0), refl))
      keeps.complicate
      (λ s is_sound. (tt, (refl, refl, refl, le_refl 0), refl));
}

-- trees that are sound and state no more than a limit stay so; and an option states no more than its tree will
pub limited_keeps : {S I : Type 0} {t : Steps S I} {sound : S → Type 0} → Keeps t sound → (limit : ℕ) → Keeps t (Limited t sound limit)
limited_keeps {t = t} keeps limit = record {
  fits = λ s is_sound. keeps.fits s is_sound.0;
  simplify = λ s is_sound. let kept = keeps.simplify s is_sound.0 in ((kept.0, rw kept.2 is_sound.1), kept.1, kept.2);
  complicate = λ s is_sound. let kept = keeps.complicate s is_sound.0 in ((kept.0, rw kept.2 is_sound.1), kept.1, kept.2);
}

pub lazy_limited : {S I : Type 0} (t : Steps S I) (sound : S → Type 0) (limit : ℕ) (x : Lazy S) → lazy_sound (Limited t sound limit) x → (lazy_steps t).longest x ≤ limit
lazy_limited t sound limit = by_lazy (λ x. lazy_sound (Limited t sound limit) x → (lazy_steps t).longest x ≤ limit) (λ s later is_sound. omega arith) (λ s is_sound. is_sound.1) (λ s is_sound. omega arith)

limited_sound : {S I : Type 0} (t : Steps S I) (sound : S → Type 0) (limit : ℕ) (x : Lazy S) → (lazy_steps t).grown x ≡ true → (lazy_steps t).longest x ≤ limit → lazy_sound sound x → lazy_sound (Limited t sound limit) x
limited_sound t sound limit = by_lazy (λ x. (lazy_steps t).grown x ≡ true → (lazy_steps t).longest x ≤ limit → lazy_sound sound x → lazy_sound (Limited t sound limit) x)
    (λ s later is_grown. absurd (false≢true is_grown))
    (λ s is_grown fits is_sound. (is_sound, fits))
    (λ s is_grown fits is_sound. tt)

-- starting an option that is sound
tried_sound : {S : Type 0} (sound : S → Type 0) (s place : S) (answer : Bool) → (let later : Stepped S = record { answer = answer; tree = s } in lazy_sound sound (uninitialized place later) → lazy_sound sound (started_as later))
tried_sound sound s place true is_sound = is_sound
tried_sound sound s place false is_sound = tt

pub started_sound : {S : Type 0} (sound : S → Type 0) (x : Lazy S) → lazy_sound sound x → lazy_sound sound (lazy_start x)
started_sound sound = by_lazy (λ x. lazy_sound sound x → lazy_sound sound (lazy_start x)) (λ s later. tried_sound sound later.tree s later.answer) (λ s is_sound. is_sound) (λ s is_sound. tt)

-- an option's growth, by the answer of its tree's
abbrev tried_by : {S : Type 0} → S → Grown → Lazy S
tried_by s answer = started_as (record { answer = is_accepted answer; tree = s })

tried_place : {S : Type 0} (s : S) (answer : Grown) → place_of (tried_by s answer) ≡ s
tried_place s (Ok _) = refl
tried_place s (Err fault) = refl

tried_grew : {S I : Type 0} (t : Steps S I) (sound : S → Type 0) (stated : ℕ) (s : S) (answer : Grown) →
    (answer ≡ Ok tt → Rooted t sound s × (t.longest s ≡ stated)) → ((fault : GrowFault) → answer ≡ Err fault → fault.cause ≡ Slots → ⊥) → Grew (lazy_steps t) (lazy_sound sound) stated (tried_by s answer) answer
tried_grew t sound stated s (Ok _) accepted untold = let (root, states) = accepted refl in (record { is_sound = root.is_sound; is_grown = root.is_grown; at_home = root.at_home; no_back = root.no_back }, states)
tried_grew t sound stated s (Err fault) accepted untold = (untold fault refl, refl)

waits_sound : {S : Type 0} (sound : S → Type 0) (place s : S) (answer : Grown) → (answer ≡ Ok tt → sound s) → lazy_sound sound (uninitialized place (record { answer = is_accepted answer; tree = s }))
waits_sound sound place s (Ok _) accepted = accepted refl
waits_sound sound place s (Err fault) accepted = tt

module _ {S I P : Type 0} {t : Steps S I} {sound : S → Type 0} {short : P → S → Bool} {g : Growth P S} {stated : P → ℕ} (roots : Roots t sound short g stated) where
  pub lazy_roots : Roots (lazy_steps t) (lazy_sound sound) (lazy_short short) (lazy_growth short g) stated
  lazy_roots = unless_roots (lazy_steps t) (lazy_sound sound) (lazy_short short) (lazy_grows g) stated
      (λ p X w r x enough. let o = g p X w r (place_of x) in tried_grew t sound (stated p) o.place o.answer (roots.accepted p X w r (place_of x)) (λ fault. roots.untold p X w r (place_of x) fault enough))
      (λ p q X w r x enough. let o = g p X w r (place_of x) in ap (short q) (tried_place o.place o.answer) ∙ roots.lasting p q X w r (place_of x))
      (λ q x. refl)
      (λ p X w r x enough. roots.calm p X w r (place_of x))

  pub lazy_accepted : (p : P) (limit : ℕ) → stated p ≤ limit → (X : Type 0) (w : Words X) (r : RunnerState X) (x : Lazy S) → (let o : Outcome X (Lazy S) = lazy_growth short g p X w r x in
      o.answer ≡ Ok tt → Rooted (lazy_steps t) (lazy_sound (Limited t sound limit)) o.place × ((lazy_steps t).longest o.place ≡ stated p))
  lazy_accepted p limit fits X w r x e =
      let (root, states) = lazy_roots.accepted p X w r x e in
      (record { is_sound = limited_sound t sound limit _ root.is_grown (omega arith) root.is_sound; is_grown = root.is_grown; at_home = root.at_home; no_back = root.no_back }, states)

  pub lazy_waits : (p : P) (limit : ℕ) → stated p ≤ limit → (X : Type 0) (w : Words X) (r : RunnerState X) (x : Lazy S) → lazy_sound (Limited t sound limit) (lazy_wait g p X w r x)
  lazy_waits p limit fits X w r x =
      let o = g p X w r (place_of x) in
      waits_sound (Limited t sound limit) (place_of x) o.place o.answer (λ e. let (root, states) = roots.accepted p X w r (place_of x) e in (root.is_sound, omega arith))
