-- The members by their numbers: finding the next one, joining what they show, and walking over them.

use Rattle.std.proofs.Common.{◌≡◌, ℕ, zero, suc, ◌+◌, ◌-◌, ◌<◌, ◌≤◌, cond, Bool, true, false, List, [], ◌∷◌, ◌++◌, length, get_or, drop, refl, sym, ap, ◌∙◌, add-one, arith, length-drop, drop-cons}
use Rattle.std.specs.List.{flat_map}
use Rattle.std.proofs.lemmas.List.{get_or-drop}
use Rattle.meaning.specs.Trees.{Steps}
use Rattle.meaning.specs.Vectors.{joined, Walked, go_on, walk}
use Rattle.vectors.specs.Numbers.{numbers}

-- the next member from number i on is number m, with none between
numbers_found : (bs : List Bool) (n i m : ℕ) → n + i ≡ m → m < length bs → get_or bs m false ≡ true → ((k : ℕ) → i ≤ k → k < m → get_or bs k false ≡ false) → numbers i (drop i bs) ≡ m ∷ numbers (m + 1) (drop (m + 1) bs)
numbers_found bs zero i m e h member none =
    let same : m ≡ i = omega (arith, e) in
    rw (same, add-one i, drop-cons bs i false (omega (arith, e, h)), (rw same at member)) refl
numbers_found bs (suc n) i m e h member none =
    rw (drop-cons bs i false (omega (arith, e, h)), none i (omega arith) (omega (arith, e)))
    (numbers_found bs n (suc i) m (omega (arith, e)) h member (λ k p q. none k (omega (arith, p)) q))

-- the first member from number i on stands p places behind it
pub numbers_first : (bs : List Bool) (i p : ℕ) → p < length (drop i bs) → get_or (drop i bs) p false ≡ true → ((k : ℕ) → k < p → get_or (drop i bs) k false ≡ false)
    → numbers i (drop i bs) ≡ (i + p) ∷ numbers (i + p + 1) (drop (i + p + 1) bs)
numbers_first bs i p h member none =
    let long = length-drop i bs in
    let same = get_or-drop i bs in
    numbers_found bs p i (i + p) (omega arith) (omega (arith, h, long)) (sym (same p false) ∙ member)
    (λ k low high. let e : i + (k - i) ≡ k = omega (arith, low) in ap (λ (n : ℕ). get_or bs n false) (sym e) ∙ sym (same (k - i) false) ∙ none (k - i) (omega (arith, low, high)))

pub no_numbers : (bs : List Bool) (i : ℕ) → ((k : ℕ) → k < length bs → get_or bs k false ≡ false) → numbers i bs ≡ []
no_numbers [] i none = refl
no_numbers (b ∷ bs) i none = rw (none 0 (omega arith)) (no_numbers bs (suc i) (λ k h. none (suc k) (omega (arith, h))))

pub joined_numbers : {I : Type 0} (f : ℕ → List I) (i : ℕ) (bs : List Bool) → joined f i bs ≡ flat_map f (numbers i bs)
joined_numbers f i [] = refl
joined_numbers f i (true ∷ bs) = ap (λ (xs : List _). f i ++ xs) (joined_numbers f (suc i) bs)
joined_numbers f i (false ∷ bs) = joined_numbers f (suc i) bs

-- the walk over the members of these numbers, which ends at `end`
abbrev pub walk_over : {T I : Type 0} → (ℕ → Steps T I) → List ℕ → ℕ → T → Walked T
walk_over table [] end t = record { elements = t; place = end; found = false }
walk_over table (n ∷ ns) end t = go_on n ((table n).simplify t) (walk_over table ns end)

pub walk_numbers : {T I : Type 0} (table : ℕ → Steps T I) (bs : List Bool) (i end : ℕ) (t : T) → i + length bs ≡ end → walk table bs i t ≡ walk_over table (numbers i bs) end t
walk_numbers table [] i end t e = ap (λ (n : ℕ). record { elements = t; place = n; found = false }) (let q : i ≡ end = omega (arith, e) in q)
walk_numbers table (false ∷ bs) i end t e = walk_numbers table bs (suc i) end t (omega (arith, e))
walk_numbers table (true ∷ bs) i end t e =
    let s = (table i).simplify t in
    ap (λ (w : Walked _). cond s.answer (record { elements = s.tree; place = i; found = true }) w) (walk_numbers table bs (suc i) end s.tree (omega (arith, e)))
