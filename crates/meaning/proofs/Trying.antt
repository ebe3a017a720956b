-- Growing until a rule accepts.
--   tried_again     the bound is never met: to try is to try once, and to go on trying where that was rejected
--   tried_grounds   trying has its grounds where each growth keeps what it should: the rule accepts what was grown

use Rattle.std.proofs.Common.{◌≡◌, ℕ, zero, suc, ◌<◌, ◌≤◌, Bool, true, false, cond, ltb, List, Ok, Err, Result, refl, ap, ◌∙◌, le_refl, arith}
use Rattle.std.proofs.lemmas.Bool.{cond_both, ltb-true}
use Rattle.draws.specs.Runners.{RunnerState, rejection, rejected}
use Rattle.draws.specs.Sources.{Words}
use Rattle.draws.specs.declared.faults.RejectFault.{RejectFault}
use Rattle.draws.specs.declared.faults.RejectFault.TheVariants.{NoneLeft}
use Rattle.meaning.specs.Trees.{Steps, Total}
use Rattle.meaning.specs.Growths.{Grown, Outcome, Grows, Growth, Rooted}
use Rattle.meaning.specs.GrowthLaws.{reject_is_not_slots, Grew, no_slots, Grounds}
use Rattle.meaning.specs.Sifters.{given_up, turned_down, by_rule, try_once, tries, tried, Accepted}

-- a rooted tree whose candidate the rule accepts
root_accepted : {S I : Type 0} (t : Steps S I) (sound : S → Type 0) (rule : List I → Bool) (s : S) → Rooted t sound s → rule (t.candidate s) ≡ true → Rooted t (Accepted t sound rule) s
root_accepted t sound rule s rooted accepts = record {
  is_sound = record { is_sound = rooted.is_sound; candidate = accepts; home = ap rule rooted.at_home ∙ accepts };
  is_grown = rooted.is_grown;
  at_home = rooted.at_home;
  no_back = rooted.no_back;
}

module _ {S I P : Type 0} {t : Steps S I} {sound : S → Type 0} {short : P → S → Bool} {g : Growth P S} {stated : P → ℕ}
    (total : Total t) (grounds : Grounds t (λ p. sound) short g stated) (rule : List I → Bool) (p : P) (X : Type 0) (w : Words X) where
  -- what tries give, from the runner and the place that they start with
  record Tried (r : RunnerState X) (s : S) (o : Outcome X S) : Type 0 where
    grew : Grew t (Accepted t sound rule) (stated p) o.place o.answer
    lasting : (q : P) → short q o.place ≡ short q s
    calm : o.runner.rejections ≤ r.rejections

  -- from a later start
  tried_from : (r r' : RunnerState X) (s s' : S) (o : Outcome X S) → r'.rejections ≤ r.rejections → ((q : P) → short q s' ≡ short q s) → Tried r' s' o → Tried r s o
  tried_from r r' s s' o calm lasting rest = record { grew = rest.grew; lasting = λ q. rest.lasting q ∙ lasting q; calm = omega arith }

  up_tried : (fault : RejectFault) (r : RunnerState X) (s : S) → Tried r s (given_up t fault r s)
  up_tried fault r s = record { grew = (reject_is_not_slots, total.blanks s); lasting = λ q. grounds.blanked q s; calm = le_refl r.rejections }

  module _ (next : Grows X S) (later : (r : RunnerState X) (s : S) → short p s ≡ false → Tried r s (next r s)) where
    down_tried : (r : RunnerState X) (s : S) → short p s ≡ false → (answer : Result (Unit {0}) RejectFault) → Tried r s (turned_down t next r s answer)
    down_tried r s enough (Ok _) = later r s enough
    down_tried r s enough (Err fault) = up_tried fault r s

    judged_tried : (o : Outcome X S) (answer : Grown) → short p o.place ≡ false → Grew t sound (stated p) o.place answer → Tried o.runner o.place (by_rule t rule next o answer)
    judged_tried o (Err fault) enough grew = record { grew = grew; lasting = λ q. refl; calm = le_refl o.runner.rejections }
    judged_tried o (Ok _) enough (rooted, states) = cond_both (rule (t.candidate o.place)) _ _ (Tried o.runner o.place)
        (λ accepts. record { grew = (root_accepted t sound rule o.place rooted accepts, states); lasting = λ q. refl; calm = le_refl o.runner.rejections })
        (λ rejects. tried_from o.runner (rejected o.runner) o.place o.place _ (omega arith) (λ q. refl) (down_tried (rejected o.runner) o.place enough (rejection o.runner.rejections)))

    once_tried : (r : RunnerState X) (s : S) → short p s ≡ false → Tried r s (try_once t rule (g p X w) next r s)
    once_tried r s enough =
        let o = g p X w r s in
        let lasting = λ (q : P). grounds.lasting p q X w r s enough in
        tried_from r o.runner s o.place _ (grounds.calm p X w r s enough) lasting (judged_tried o o.answer (lasting p ∙ enough) (grounds.grew p X w r s enough))

  tries_tried : (n : ℕ) (r : RunnerState X) (s : S) → short p s ≡ false → Tried r s (tries t rule (g p X w) n r s)
  tries_tried zero = once_tried (given_up t NoneLeft) (λ r s enough. up_tried NoneLeft r s)
  tries_tried (suc n) = once_tried (tries t rule (g p X w) n) (tries_tried n)

  tries_told : (n : ℕ) (r : RunnerState X) (s : S) → short p s ≡ true → tries t rule (g p X w) n r s ≡ no_slots r s
  tries_told zero r s few = ap (λ (o : Outcome X S). by_rule t rule (given_up t NoneLeft) o o.answer) (grounds.told p X w r s few)
  tries_told (suc n) r s few = ap (λ (o : Outcome X S). by_rule t rule (tries t rule (g p X w) n) o o.answer) (grounds.told p X w r s few)

pub tried_grounds : {S I P : Type 0} {t : Steps S I} {sound : S → Type 0} {short : P → S → Bool} {g : Growth P S} {stated : P → ℕ} (rule : P → List I → Bool) → Total t →
    Grounds t (λ p. sound) short g stated → Grounds t (λ p. Accepted t sound (rule p)) short (λ p X w. tried t (rule p) (g p X w)) stated
tried_grounds rule total grounds = record {
  told = λ p X w r. tries_told total grounds (rule p) p X w r.rejections r;
  grew = λ p X w r s enough. (tries_tried total grounds (rule p) p X w r.rejections r s enough).grew;
  lasting = λ p q X w r s enough. (tries_tried total grounds (rule p) p X w r.rejections r s enough).lasting q;
  blanked = grounds.blanked;
  calm = λ p X w r s enough. (tries_tried total grounds (rule p) p X w r.rejections r s enough).calm;
}

-- the bound: two ways to go on that agree wherever fewer rejections are left
module _ {X S I : Type 0} (t : Steps S I) (rule : List I → Bool) (grows : Grows X S) (calm : (r : RunnerState X) (s : S) → (grows r s).runner.rejections ≤ r.rejections) where
  down_same : (next other : Grows X S) (r : RunnerState X) (s : S) (left : Bool) → (left ≡ true → next r s ≡ other r s) →
      turned_down t next r s (cond left (Ok tt) (Err NoneLeft)) ≡ turned_down t other r s (cond left (Ok tt) (Err NoneLeft))
  down_same next other r s true same = same refl
  down_same next other r s false same = refl

  judged_same : (next other : Grows X S) (o : Outcome X S) (answer : Grown) → ((r : RunnerState X) (s : S) → r.rejections < o.runner.rejections → next r s ≡ other r s) →
      by_rule t rule next o answer ≡ by_rule t rule other o answer
  judged_same next other o (Err fault) same = refl
  judged_same next other o (Ok _) same = ap (cond (rule (t.candidate o.place)) (record { answer = Ok tt; runner = o.runner; place = o.place }))
      (down_same next other (rejected o.runner) o.place (ltb 0 o.runner.rejections) (λ left. same (rejected o.runner) o.place (omega (arith, ltb-true 0 o.runner.rejections left))))

  try_same : (next other : Grows X S) (r : RunnerState X) (s : S) → ((r' : RunnerState X) (s' : S) → r'.rejections < r.rejections → next r' s' ≡ other r' s') →
      try_once t rule grows next r s ≡ try_once t rule grows other r s
  try_same next other r s same = judged_same next other (grows r s) (grows r s).answer (λ r' s' less. same r' s' (omega (arith, calm r s)))

  tries_enough : (n m : ℕ) (r : RunnerState X) (s : S) → r.rejections ≤ n → r.rejections ≤ m → tries t rule grows n r s ≡ tries t rule grows m r s
  tries_enough zero zero r s under over = refl
  tries_enough zero (suc m) r s under over = try_same (given_up t NoneLeft) (tries t rule grows m) r s (λ r' s' less. absurd (omega arith))
  tries_enough (suc n) zero r s under over = try_same (tries t rule grows n) (given_up t NoneLeft) r s (λ r' s' less. absurd (omega arith))
  tries_enough (suc n) (suc m) r s under over = try_same (tries t rule grows n) (tries t rule grows m) r s (λ r' s' less. tries_enough n m r' s' (omega arith) (omega arith))

  pub tried_again : (r : RunnerState X) (s : S) → tried t rule grows r s ≡ try_once t rule grows (tried t rule grows) r s
  tried_again r s = tries_enough r.rejections (suc r.rejections) r s (le_refl r.rejections) (omega arith) ∙
      try_same (tries t rule grows r.rejections) (tried t rule grows) r s (λ r' s' less. tries_enough r.rejections r'.rejections r' s' (omega arith) (le_refl r'.rejections))
