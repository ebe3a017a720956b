-- Readers that accept just what is written for their values.
use Rattle.std.proofs.Common.{◌≡◌, ℕ, ◌≤◌, Bool, true, false, cond, leb, List, [], ◌∷◌, map, length, Some, None, Option, sym, refl, ap, ◌∙◌, arith}
use Rattle.std.specs.List.{AllByRecursion}
use Rattle.std.proofs.lemmas.Bool.{le-leb, leb-true}
use Rattle.plan.specs.Gather.{each, at_most, first_of}

-- reading gives x just where the source is what is written for x, and x is fine
pub record Spells {A B : Type 0} (read : A → Option B) (write : B → A) (Fine : B → Type 0) : Type 0 where
  pub only : (a : A) (x : B) → read a ≡ Some x → (a ≡ write x) × Fine x
  pub every : (x : B) → Fine x → read (write x) ≡ Some x

-- what follows from two constructors that are equal, which `cc` turns into this
pub clash : {C : Type 0} → ◌≡◌ {A = ℕ} 0 1 → C
clash e = let z : ⊥ = omega arith in absurd z

pub none_some : {B C : Type 0} (x : B) → None ≡ Some x → C
none_some x e = clash (cc)

-- an answer behind a test is there only where the test passes
pub test_passed : {B : Type 0} (t : Bool) (o : Option B) (x : B) → cond t o None ≡ Some x → (t ≡ true) × (o ≡ Some x)
test_passed true o x e = (refl, e)
test_passed false o x e = none_some x e

-- the same reader, with another word for what is fine
pub spells_like : {A B : Type 0} {read : A → Option B} {write : B → A} {P Q : B → Type 0} → Spells read write P → ((x : B) → P x → Q x) → ((x : B) → Q x → P x) → Spells read write Q
spells_like s to from =
    record { only = λ a x e. let o = s.only a x e in (o.0, to x o.1); every = λ x q. s.every x (from x q) }

-- a source that is taken apart first, and put together again
pub spells_through : {A A' B : Type 0} {read : A → Option B} {write : B → A} {Fine : B → Type 0} (apart : A' → A) (together : A → A')
    → ((a : A') → together (apart a) ≡ a) → ((x : B) → Fine x → apart (together (write x)) ≡ write x)
    → Spells read write Fine → Spells (λ a. read (apart a)) (λ x. together (write x)) Fine
spells_through {read = read} apart together back forth s =
    record {
      only = λ a x e. let o = s.only (apart a) x e in (sym (back a) ∙ ap together o.0, o.1);
      every = λ x h. ap read (forth x h) ∙ s.every x h;
    }

-- at most so many
at_most_some : {B : Type 0} (most : ℕ) (o : Option (List B)) (xs : List B) → at_most most o ≡ Some xs → (o ≡ Some xs) × (length xs ≤ most)
at_most_some most None xs e = none_some xs e
at_most_some most (Some ys) xs e =
    let p = test_passed (leb (length ys) most) (Some ys) xs e in
    let same : ys ≡ xs = cc in
    (p.1, rw (← same) (leb-true (length ys) most p.0))

pub at_most_spells : {A B : Type 0} {read : A → Option (List B)} {write : List B → A} {Fine : List B → Type 0} (most : ℕ)
    → Spells read write Fine → Spells (λ a. at_most most (read a)) write (λ xs. (length xs ≤ most) × Fine xs)
at_most_spells {read = read} most s =
    record {
      only = λ a xs e. let p = at_most_some most (read a) xs e in let o = s.only a xs p.0 in (o.0, (p.1, o.1));
      every = λ xs h. rw (s.every xs h.1, le-leb (length xs) most h.0);
    }

-- item by item
first_of_some : {B : Type 0} (o : Option B) (os : Option (List B)) (xs : List B) → first_of o os ≡ Some xs
    → (y : B) × ((ys : List B) × (o ≡ Some y) × (os ≡ Some ys) × (xs ≡ y ∷ ys))
first_of_some None os xs e = none_some xs e
first_of_some (Some y) None xs e = none_some xs e
first_of_some (Some y) (Some ys) xs e = (y, (ys, refl, refl, cc))

module _ {A B : Type 0} {read : A → Option B} {write : B → A} {Fine : B → Type 0} (s : Spells read write Fine) where
  each_only : (source : List A) (xs : List B) → each read source ≡ Some xs → (source ≡ map write xs) × AllByRecursion Fine xs
  each_only [] [] e = (refl, tt)
  each_only [] (x ∷ xs) e = clash (cc)
  each_only (a ∷ source) xs e =
      let p = first_of_some (read a) (each read source) xs e in
      let here = s.only a p.0 p.1.1 in
      let more = each_only source p.1.0 p.1.2 in
      rw p.1.3 (rw (← here.0, ← more.0) refl, (here.1, more.1))

  each_every : (xs : List B) → AllByRecursion Fine xs → each read (map write xs) ≡ Some xs
  each_every [] h = refl
  each_every (x ∷ xs) h = rw (s.every x h.0, each_every xs h.1)

  pub each_spells : Spells (each read) (map write) (AllByRecursion Fine)
  each_spells = record { only = each_only; every = each_every }
