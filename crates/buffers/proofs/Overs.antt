-- The laws of `over` and `over_from`. Those that join two writes hold with or without room for them.
use Rattle.std.proofs.Common.{◌≡◌, ℕ, zero, suc, ◌+◌, ◌≤◌, min, List, [], ◌∷◌, ◌++◌, length, take, drop, set, sym, refl, ap, ◌∙◌, zero-add, suc-add, arith, length-append, length-take, length-drop, take-append-drop}
use Rattle.std.proofs.Math.Seq.{take-nil}
use Rattle.buffers.specs.Over.{over, over_from}

pub over_nil : {A : Type 0} (xs : List A) → over xs [] ≡ []
over_nil [] = refl
over_nil (x ∷ xs) = refl

pub over_from_nil : {A : Type 0} (at : ℕ) (xs : List A) → over_from at xs [] ≡ []
over_from_nil zero xs = over_nil xs
over_from_nil (suc at) xs = over_nil xs

-- a write keeps the length
pub length_over : {A : Type 0} (xs bs : List A) → length (over xs bs) ≡ length bs
length_over [] bs = refl
length_over (x ∷ xs) [] = refl
length_over (x ∷ xs) (b ∷ bs) = ap suc (length_over xs bs)

pub length_over_from : {A : Type 0} (at : ℕ) (xs bs : List A) → length (over_from at xs bs) ≡ length bs
length_over_from at xs bs = grind (arith, length-append, length-take, length-drop, length_over)

-- nothing written, and one item written
pub over_from_none : {A : Type 0} (at : ℕ) (bs : List A) → over_from at [] bs ≡ bs
over_from_none at bs = take-append-drop at bs

pub over_from_one : {A : Type 0} (at : ℕ) (x : A) (bs : List A) → over_from at (x ∷ []) bs ≡ set bs at x
over_from_one zero x [] = refl
over_from_one zero x (b ∷ bs) = refl
over_from_one (suc at) x [] = refl
over_from_one (suc at) x (b ∷ bs) = ap (λ w. b ∷ w) (over_from_one at x bs)

-- a write for which there is room: all of it, and what was behind it
pub over_fits : {A : Type 0} (xs bs : List A) → length xs ≤ length bs → over xs bs ≡ xs ++ drop (length xs) bs
over_fits [] bs fits = refl
over_fits (x ∷ xs) [] fits = absurd (omega (arith, fits))
over_fits (x ∷ xs) (b ∷ bs) fits = ap (λ w. x ∷ w) (over_fits xs bs (omega (arith, fits)))

-- the first items after a write are those of xs, as far as there is room
pub take_over : {A : Type 0} (xs bs : List A) → take (min (length xs) (length bs)) (over xs bs) ≡ take (length bs) xs
take_over [] bs = let e : min 0 (length bs) ≡ 0 = omega arith in rw e (sym (take-nil (length bs)))
take_over (x ∷ xs) [] = take-nil (min (suc (length xs)) 0)
take_over (x ∷ xs) (b ∷ bs) =
    let e : min (suc (length xs)) (suc (length bs)) ≡ suc (min (length xs) (length bs)) = omega arith in
    rw e (ap (λ w. x ∷ w) (take_over xs bs))

-- xs written, and then ys behind it
pub over_append : {A : Type 0} (xs ys bs : List A) → over_from (length xs) ys (over xs bs) ≡ over (xs ++ ys) bs
over_append [] ys bs = refl
over_append (x ∷ xs) ys [] = over_nil ys
over_append (x ∷ xs) ys (b ∷ bs) = ap (λ w. x ∷ w) (over_append xs ys bs)

-- the same, by how many items of xs there was room for
pub over_append_within : {A : Type 0} (xs ys bs : List A) (m : ℕ) → m ≡ min (length xs) (length bs) → over_from m ys (over xs bs) ≡ over (xs ++ ys) bs
over_append_within [] ys bs m e = let z : m ≡ 0 = omega (arith, e) in rw z refl
over_append_within (x ∷ xs) ys [] m e = let z : m ≡ 0 = omega (arith, e) in rw z (over_nil ys)
over_append_within (x ∷ xs) ys (b ∷ bs) zero e = absurd (omega (arith, e))
over_append_within (x ∷ xs) ys (b ∷ bs) (suc m) e = ap (λ w. x ∷ w) (over_append_within xs ys bs m (omega (arith, e)))

pub over_from_append : {A : Type 0} (at : ℕ) (xs ys bs : List A)
    → over_from (at + length xs) ys (over_from at xs bs) ≡ over_from at (xs ++ ys) bs
over_from_append zero xs ys bs = rw zero-add (over_append xs ys bs)
over_from_append (suc at) xs ys [] =
    ap (over_from (suc at + length xs) ys) (over_nil xs)
    ∙ over_from_nil (suc at + length xs) ys
    ∙ sym (over_nil (xs ++ ys))
over_from_append (suc at) xs ys (b ∷ bs) = rw suc-add (ap (λ w. b ∷ w) (over_from_append at xs ys bs))

-- ys written, and then xs before it
pub over_prepend : {A : Type 0} (xs ys bs : List A) → over xs (over_from (length xs) ys bs) ≡ over (xs ++ ys) bs
over_prepend [] ys bs = refl
over_prepend (x ∷ xs) ys [] = ap (over (x ∷ xs)) (over_nil ys)
over_prepend (x ∷ xs) ys (b ∷ bs) = ap (λ w. x ∷ w) (over_prepend xs ys bs)

pub over_from_prepend : {A : Type 0} (at : ℕ) (xs ys bs : List A)
    → over_from at xs (over_from (at + length xs) ys bs) ≡ over_from at (xs ++ ys) bs
over_from_prepend zero xs ys bs = rw zero-add (over_prepend xs ys bs)
over_from_prepend (suc at) xs ys [] =
    ap (over_from (suc at) xs) (over_from_nil (suc at + length xs) ys)
    ∙ over_nil xs
    ∙ sym (over_nil (xs ++ ys))
over_from_prepend (suc at) xs ys (b ∷ bs) = rw suc-add (ap (λ w. b ∷ w) (over_from_prepend at xs ys bs))
