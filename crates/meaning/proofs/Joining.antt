-- What is joined by number, where one number has another value.

use Rattle.std.proofs.Common.{◌≡◌, ℕ, zero, suc, ◌+◌, ◌<◌, ◌≤◌, Bool, List, [], ◌∷◌, length, sym, refl, ap, ap₂, ◌∙◌, subst, inl, inr, arith, length-append}
use Rattle.std.proofs.Math.Path.{fun_ext}
use Rattle.std.proofs.lemmas.Bool.{cond_both, cases_eq}
use Rattle.meaning.specs.Vectors.{joined, put}
use Rattle.meaning.specs.TableLaws.{together}

-- what holds of number k and of every other
pub everywhere : (P : ℕ → Type 0) (k : ℕ) → P k → ((j : ℕ) → (j ≡ k → ⊥) → P j) → (j : ℕ) → P j
everywhere P k here others j = elim (cases_eq j k) [ inl e ↦ subst P (sym e) here | inr other ↦ others j other ]

put_here : {A : Type 0} (k : ℕ) (a : A) (f : ℕ → A) → put k a f k ≡ a
put_here zero a f = refl
put_here (suc k) a f = put_here k a (λ j. f (suc j))

put_else : {A : Type 0} (k : ℕ) (a : A) (f : ℕ → A) (j : ℕ) → (j ≡ k → ⊥) → put k a f j ≡ f j
put_else zero a f zero other = absurd (other refl)
put_else zero a f (suc j) other = refl
put_else (suc k) a f zero other = refl
put_else (suc k) a f (suc j) other = put_else k a (λ j. f (suc j)) j (λ e. other (ap suc e))

pub joined_same : {I : Type 0} (f h : ℕ → List I) (bs : List Bool) → ((j : ℕ) → f j ≡ h j) → joined f 0 bs ≡ joined h 0 bs
joined_same {I} f h bs same = ap {B = List I} (λ (x : ℕ → List I). joined x 0 bs) (fun_ext same)

pub joined_put : {I : Type 0} (k : ℕ) (a : List I) (f h : ℕ → List I) (bs : List Bool) → a ≡ h k → ((j : ℕ) → (j ≡ k → ⊥) → f j ≡ h j) → joined (put k a f) 0 bs ≡ joined h 0 bs
joined_put k a f h bs here others = joined_same (put k a f) h bs (everywhere (λ j. put k a f j ≡ h j) k (put_here k a f ∙ here) (λ j other. put_else k a f j other ∙ others j other))

pub joined_puts : {I : Type 0} (k : ℕ) (a b : List I) (f h : ℕ → List I) (bs : List Bool) → a ≡ b → ((j : ℕ) → (j ≡ k → ⊥) → f j ≡ h j) → joined (put k a f) 0 bs ≡ joined (put k b h) 0 bs
joined_puts k a b f h bs here others = joined_put k a f (put k b h) bs (here ∙ sym (put_here k b h)) (λ j other. others j other ∙ sym (put_else k b h j other))

pub together_same : (f h : ℕ → ℕ) (n : ℕ) → ((j : ℕ) → j < n → f j ≡ h j) → together f n ≡ together h n
together_same f h zero same = refl
together_same f h (suc n) same = ap₂ ◌+◌ (together_same f h n (λ j below. same j (omega arith))) (same n (omega arith))

-- lists that each fit their number fit all numbers together
pub joined_fits : {I : Type 0} (f : ℕ → List I) (most : ℕ → ℕ) (n : ℕ) → ((j : ℕ) → j < n → length (f j) ≤ most j) → (i : ℕ) (bs : List Bool) → i + length bs ≡ n → length (joined f i bs) + together most i ≤ together most n
joined_fits f most n fits i [] e = let all : together most i ≡ together most n = ap (together most) (omega arith) in omega arith
joined_fits f most n fits i (b ∷ bs) e =
    let here = cond_both b (f i) [] (λ xs. length xs ≤ most i) (λ member. fits i (omega arith)) (λ none. omega arith) in
    let rest = joined_fits f most n fits (suc i) bs (omega arith) in
    simp length-append (omega arith)
