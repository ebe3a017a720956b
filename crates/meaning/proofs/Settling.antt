-- Settling by a rule.
--   settle_again            the bound is never met: to settle is to ask once, and to settle what is left where that goes on
--   step_falls, step_grown  a settled step at every state: steps back fall with complicate's answers, grownness is kept
--   settled_simplify, settled_complicate   a settled step at sound states: it keeps its meaning, and the rule accepts

use Rattle.std.proofs.Common.{◌≡◌, ℕ, zero, suc, ◌<◌, ◌≤◌, Bool, true, false, cond, List, sym, refl, ap, ◌∙◌, ⊎_elim, true≢false, le_refl, arith}
use Rattle.meaning.specs.Trees.{Steps, Falls, SimplifyKept, ComplicateKept, Total, Keeps}
use Rattle.meaning.specs.Sifters.{settle_once, settle, settled, settled_step, Accepted}

module _ {S I : Type 0} (t : Steps S I) (rule : List I → Bool) where
  -- at every state
  record Stays (before now : S) : Type 0 where
    no_rise : t.back now ≤ t.back before
    same_grown : t.grown now ≡ t.grown before

  stays_as_is : (s : S) → Stays s s
  stays_as_is s = record { no_rise = le_refl (t.back s); same_grown = refl }

  stays_on : (s s' last : S) (accepts answer : Bool) → Falls (t.back s) answer (t.back s') → t.grown s' ≡ t.grown s → Stays s' last → Stays s (cond accepts s (cond answer last s'))
  stays_on s s' last true answer falls same later = stays_as_is s
  stays_on s s' last false true falls same later = record { no_rise = omega arith; same_grown = later.same_grown ∙ same }
  stays_on s s' last false false falls same later = record { no_rise = falls; same_grown = same }

  module _ (total : Total t) where
    once_stays : (next : S → S) → ((s : S) → Stays s (next s)) → (s : S) → Stays s (settle_once t rule next s)
    once_stays next later s = let step = t.complicate s in stays_on s step.tree (next step.tree) (rule (t.candidate s)) step.answer (total.ends s) (total.complicate_grown s) (later step.tree)

    settle_stays : (n : ℕ) (s : S) → Stays s (settle t rule n s)
    settle_stays zero s = once_stays (λ last. last) stays_as_is s
    settle_stays (suc n) s = once_stays (settle t rule n) (settle_stays n) s

    -- two ways to go on that agree wherever fewer steps back are left
    once_same : (next other : S → S) (s s' : S) (accepts answer : Bool) → Falls (t.back s) answer (t.back s') → (t.back s' < t.back s → next s' ≡ other s') →
        cond accepts s (cond answer (next s') s') ≡ cond accepts s (cond answer (other s') s')
    once_same next other s s' true answer falls same = refl
    once_same next other s s' false true falls same = same falls
    once_same next other s s' false false falls same = refl

    settle_same : (next other : S → S) (s : S) → ((s' : S) → t.back s' < t.back s → next s' ≡ other s') → settle_once t rule next s ≡ settle_once t rule other s
    settle_same next other s same = let step = t.complicate s in once_same next other s step.tree (rule (t.candidate s)) step.answer (total.ends s) (same step.tree)

    -- any bound at or above the steps back gives the same
    settle_enough : (n m : ℕ) (s : S) → t.back s ≤ n → t.back s ≤ m → settle t rule n s ≡ settle t rule m s
    settle_enough zero zero s under over = refl
    settle_enough zero (suc m) s under over = settle_same (λ last. last) (settle t rule m) s (λ s' falls. absurd (omega arith))
    settle_enough (suc n) zero s under over = settle_same (settle t rule n) (λ last. last) s (λ s' falls. absurd (omega arith))
    settle_enough (suc n) (suc m) s under over = settle_same (settle t rule n) (settle t rule m) s (λ s' falls. settle_enough n m s' (omega arith) (omega arith))

    pub settle_again : (s : S) → settled t rule s ≡ settle_once t rule (settled t rule) s
    settle_again s = settle_enough (t.back s) (suc (t.back s)) s (le_refl (t.back s)) (omega arith) ∙
        settle_same (settle t rule (t.back s)) (settled t rule) s (λ s' falls. settle_enough (t.back s) (t.back s') s' (omega arith) (le_refl (t.back s')))

    pub step_falls : (s s' : S) (answer : Bool) → Falls (t.back s) answer (t.back s') → Falls (t.back s) answer (t.back (settled_step t rule (record { answer = answer; tree = s' })).tree)
    step_falls s s' true falls = let no_rise = (settle_stays (t.back s') s').no_rise in omega arith
    step_falls s s' false falls = falls

    pub step_grown : (s' : S) (answer : Bool) → t.grown (settled_step t rule (record { answer = answer; tree = s' })).tree ≡ t.grown s'
    step_grown s' true = (settle_stays (t.back s') s').same_grown
    step_grown s' false = refl

  -- at sound states
  module _ (sound : S → Type 0) where
    record Settles (before now : S) : Type 0 where
      is_sound : sound now
      accepted : rule (t.candidate now) ≡ true
      same_home : t.home now ≡ t.home before
      no_rise : t.back now ≤ t.back before
      same_longest : t.longest now ≡ t.longest before

    settles_on : (s s' last : S) (accepts answer : Bool) → rule (t.candidate s) ≡ accepts → sound s → rule (t.home s) ≡ true → ComplicateKept t sound s (record { answer = answer; tree = s' }) →
        (sound s' → rule (t.home s') ≡ true → t.back s' < t.back s → Settles s' last) → Settles s (cond accepts s (cond answer last s'))
    settles_on s s' last true answer e is_sound home kept later = record { is_sound = is_sound; accepted = e; same_home = refl; no_rise = le_refl (t.back s); same_longest = refl }
    settles_on s s' last false true e is_sound home (now-sound, (same_home, falls), same_longest) later =
        let rest = later now-sound (ap rule same_home ∙ home) falls in
        record { is_sound = rest.is_sound; accepted = rest.accepted; same_home = rest.same_home ∙ same_home; no_rise = omega arith; same_longest = rest.same_longest ∙ same_longest }
    settles_on s s' last false false e is_sound home (now-sound, (shown, same_home, at_home, falls), same_longest) later = absurd (true≢false (sym (ap rule at_home ∙ home) ∙ e))

    module _ (keeps : Keeps t sound) where
      once_settles : (next : S → S) (s : S) → sound s → rule (t.home s) ≡ true → ((s' : S) → sound s' → rule (t.home s') ≡ true → t.back s' < t.back s → Settles s' (next s')) → Settles s (settle_once t rule next s)
      once_settles next s is_sound home later = let step = t.complicate s in settles_on s step.tree (next step.tree) (rule (t.candidate s)) step.answer refl is_sound home (keeps.complicate s is_sound) (later step.tree)

      settle_settles : (n : ℕ) (s : S) → t.back s ≤ n → sound s → rule (t.home s) ≡ true → Settles s (settle t rule n s)
      settle_settles zero s under is_sound home = once_settles (λ last. last) s is_sound home (λ s' now-sound now-home falls. absurd (omega arith))
      settle_settles (suc n) s under is_sound home = once_settles (settle t rule n) s is_sound home (λ s' now-sound now-home falls. settle_settles n s' (omega arith) now-sound now-home)

      abbrev settles : (s : S) → sound s → rule (t.home s) ≡ true → Settles s (settled t rule s)
      settles s = settle_settles (t.back s) s (le_refl (t.back s))

      pub settled_simplify : (s s' : S) (answer : Bool) → Accepted t sound rule s → SimplifyKept t sound s (record { answer = answer; tree = s' }) →
          SimplifyKept t (Accepted t sound rule) s (settled_step t rule (record { answer = answer; tree = s' }))
      settled_simplify s s' true before (now-sound, home, longest) =
          let rest = settles s' now-sound (ap rule home ∙ before.candidate) in
          let same_home = rest.same_home ∙ home in
          (record { is_sound = rest.is_sound; candidate = rest.accepted; home = ap rule same_home ∙ before.candidate }, same_home, rest.same_longest ∙ longest)
      settled_simplify s s' false before (now-sound, (shown, home), longest) =
          let candidate = ap rule shown ∙ before.candidate in
          let home-accepted : rule (t.home s') ≡ true = ⊎_elim (λ same. ap rule same ∙ before.home) (λ shown. ap rule shown ∙ before.candidate) home in
          (record { is_sound = now-sound; candidate = candidate; home = home-accepted }, (shown, home), longest)

      pub settled_complicate : (s s' : S) (answer : Bool) → Accepted t sound rule s → ComplicateKept t sound s (record { answer = answer; tree = s' }) →
          ComplicateKept t (Accepted t sound rule) s (settled_step t rule (record { answer = answer; tree = s' }))
      settled_complicate s s' true before (now-sound, (home, falls), longest) =
          let rest = settles s' now-sound (ap rule home ∙ before.home) in
          let same_home = rest.same_home ∙ home in
          (record { is_sound = rest.is_sound; candidate = rest.accepted; home = ap rule same_home ∙ before.home }, (same_home, omega arith), rest.same_longest ∙ longest)
      settled_complicate s s' false before (now-sound, (shown, home, at_home, falls), longest) =
          (record { is_sound = now-sound; candidate = ap rule shown ∙ before.candidate; home = ap rule home ∙ before.home }, (shown, home, at_home, falls), longest)
