-- A loop that gathers a list item by item, against `each` and `at_most`.
use Rattle.std.proofs.Common.{◌≡◌, ℕ, ◌<◌, ◌≤◌, List, [], ◌∷◌, ◌++◌, length, Some, None, Option, sym, refl, ap, ◌∙◌, arith}
use Rattle.std.proofs.lemmas.List.{append_assoc, append-nil, length-append}
use Rattle.std.proofs.lemmas.Bool.{le-leb, lt-leb}
use Rattle.plan.specs.Gather.{each, at_most, first_of}

module _ {B : Type 0} where
  -- what was gathered so far, in front of what is left
  abbrev pub after : List B → Option (List B) → Option (List B)
  after so_far None = None
  after so_far (Some ys) = Some (so_far ++ ys)

  after_more : (so_far : List B) (y : B) (o : Option (List B)) → after so_far (first_of (Some y) o) ≡ after (so_far ++ (y ∷ [])) o
  after_more so_far y None = refl
  after_more so_far y (Some ys) = rw append_assoc

  after_full : (most : ℕ) (so_far : List B) (x : Option B) (o : Option (List B)) → most ≤ length so_far → at_most most (after so_far (first_of x o)) ≡ None
  after_full most so_far None o full = refl
  after_full most so_far (Some y) None full = refl
  after_full most so_far (Some y) (Some ys) full =
      let over : most < length (so_far ++ (y ∷ ys)) = simp length-append (omega arith) in
      rw (lt-leb _ _ over)

-- a loop that has gathered a list, and has these items left, comes to this answer
pub record Going {A B : Type 0} (most : ℕ) (read : A → Option B) (so_far : List B) (left : List A) (answer : Option (List B)) : Type 0 where
  pub comes_to : at_most most (after so_far (each read left)) ≡ answer
  pub fits : length so_far ≤ most

module _ {A B : Type 0} {most : ℕ} {read : A → Option B} where
  module _ {so_far : List B} {left : List A} {answer : Option (List B)} (going : Going most read so_far left answer) where
    pub ends : left ≡ [] → Some so_far ≡ answer
    ends last =
        let all : at_most most (after so_far (each read left)) ≡ Some so_far = rw (last, append-nil, le-leb (length so_far) most going.fits) in
        sym all ∙ going.comes_to

    module _ {x : A} {xs : List A} (next : left ≡ x ∷ xs) where
      pub stops_unread : None ≡ read x → None ≡ answer
      stops_unread e =
          let none : at_most most (after so_far (each read left)) ≡ None = rw (next, ← e) in
          sym none ∙ going.comes_to

      pub stops_full : length so_far ≡ most → None ≡ answer
      stops_full full =
          let none : at_most most (after so_far (each read left)) ≡ None = rw next (after_full most so_far (read x) (each read xs) (omega arith)) in
          sym none ∙ going.comes_to

      pub goes_on : {y : B} {more : List B} → Some y ≡ read x → length so_far < most → more ≡ so_far ++ (y ∷ []) → Going most read more xs answer
      goes_on {y} {more} e room pushed =
          let one : at_most most (after so_far (each read left)) ≡ at_most most (after more (each read xs)) =
          rw (next, ← e, pushed) (ap (at_most most) (after_more so_far y (each read xs))) in
          record { comes_to = sym one ∙ going.comes_to; fits = rw pushed (simp length-append (omega arith)) }
