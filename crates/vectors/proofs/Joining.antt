-- The members' candidates, joined one member at a time: counting the items, finding one, copying them all.
-- A loop's invariant says that what the members left show, with what was done, makes the whole.

use Rattle.std.proofs.Common.{◌≡◌, ℕ, zero, suc, ◌+◌, ◌-◌, ◌^◌, ◌<◌, ◌≤◌, min, Bool, List, [], ◌∷◌, ◌++◌, length, take, drop, Some, None, sym, refl, ap, ◌∙◌, append_assoc, append-nil, le_refl, arith, length-append, length-drop, take-append-drop, drop_of_length-le, length-take-le}
use borrow.Rule.Slice.PartMut.{put_mid}
use Rattle.std.specs.List.{flat_map}
use Rattle.std.proofs.Math.Seq.{take-append-add, drop-append-add}
use Rattle.std.proofs.lemmas.Slice.{between_to_end}
use Rattle.buffers.specs.Over.{over}
use Rattle.buffers.proofs.Overs.{length_over, over_append_within}
use Rattle.meaning.specs.Readings.{counted, item_at}
use Rattle.meaning.specs.Vectors.{joined}
use Rattle.vectors.specs.Numbers.{numbers}
use Rattle.vectors.proofs.Members.{joined_numbers}

-- counting

pub record Counting {I : Type 0} (f : ℕ → List I) (inc : List Bool) (left : List ℕ) (n : ℕ) : Type 0 where
  pub small : n < 2 ^ 64
  pub same : counted (n + length (flat_map f left)) ≡ counted (length (joined f 0 inc))

pub count_first : {I : Type 0} {f : ℕ → List I} {inc : List Bool} {left : List ℕ} → left ≡ numbers 0 inc → Counting f inc left 0
count_first {f = f} {inc = inc} e = let j = ap length (joined_numbers f 0 inc) in rw e (record { small = omega arith; same = omega (arith, j) })

module _ {I : Type 0} {f : ℕ → List I} {inc : List Bool} {left : List ℕ} {n : ℕ} (c : Counting f inc left n) where
  pub count_here : {i : ℕ} {rest : List ℕ} → left ≡ i ∷ rest → (k : ℕ) → k ≡ min (n + counted (length (f i))) (2 ^ 64 - 1) → Counting f inc rest k
  count_here {i = i} {rest = rest} e k p =
      let q = ap (λ (ns : List ℕ). length (flat_map f ns)) e ∙ length-append (f i) (flat_map f rest) in
      let s = c.same in
      record { small = omega (arith, p); same = omega (arith, q, s, p) }

  pub count_end : left ≡ [] → n ≡ counted (length (joined f 0 inc))
  count_end e =
      let q = ap (λ (ns : List ℕ). length (flat_map f ns)) e in
      let s = c.same in
      let l = c.small in
      omega (arith, q, s, l)

-- finding one item

item_left : {I : Type 0} (xs ys : List I) (k : ℕ) (x : I) → Some x ≡ item_at xs k → Some x ≡ item_at (xs ++ ys) k
item_left [] ys k x e = let z : ◌≡◌ {A = ℕ} 0 1 = cc in absurd (omega arith)
item_left (y ∷ xs) ys zero x e = e
item_left (y ∷ xs) ys (suc k) x e = item_left xs ys k x e

item_right : {I : Type 0} (xs ys : List I) (k : ℕ) → None ≡ item_at xs k → (length xs ≤ k) × (item_at (xs ++ ys) k ≡ item_at ys (k - length xs))
item_right [] ys k e = (omega arith, ap (λ (j : ℕ). item_at ys j) (let z : k ≡ k - 0 = omega arith in z))
item_right (y ∷ xs) ys zero e = let z : ◌≡◌ {A = ℕ} 0 1 = cc in absurd (omega arith)
item_right (y ∷ xs) ys (suc k) e =
    let p = item_right xs ys k e in
    let l = p.0 in
    (omega (arith, l), p.1 ∙ ap (λ (j : ℕ). item_at ys j) (let z : k - length xs ≡ suc k - suc (length xs) = omega arith in z))

pub record Seeking {I : Type 0} (f : ℕ → List I) (inc : List Bool) (k : ℕ) (left : List ℕ) (r : ℕ) : Type 0 where
  pub small : r < 2 ^ 64
  pub same : item_at (flat_map f left) r ≡ item_at (joined f 0 inc) k

pub seek_first : {I : Type 0} {f : ℕ → List I} {inc : List Bool} {k : ℕ} {left : List ℕ} → k < 2 ^ 64 → left ≡ numbers 0 inc → Seeking f inc k left k
seek_first {f = f} {inc = inc} {k = k} h e = rw e (record { small = h; same = ap (λ (xs : List _). item_at xs k) (sym (joined_numbers f 0 inc)) })

-- where the member has no such item, its length is at most r, and so is what it counts
pub record Passed {I : Type 0} (f : ℕ → List I) (inc : List Bool) (k : ℕ) (rest : List ℕ) (r n : ℕ) : Type 0 where
  pub enough : n ≤ r
  pub next : Seeking f inc k rest (r - n)

module _ {I : Type 0} {f : ℕ → List I} {inc : List Bool} {k : ℕ} {left : List ℕ} {r : ℕ} (s : Seeking f inc k left r) where
  pub seek_found : {i : ℕ} {rest : List ℕ} → left ≡ i ∷ rest → (x : I) → Some x ≡ item_at (f i) r → Some x ≡ item_at (joined f 0 inc) k
  seek_found {i = i} {rest = rest} e x p = item_left (f i) (flat_map f rest) r x p ∙ ap (λ (ns : List ℕ). item_at (flat_map f ns) r) (sym e) ∙ s.same

  pub seek_on : {i : ℕ} {rest : List ℕ} → left ≡ i ∷ rest → None ≡ item_at (f i) r → (n : ℕ) → n ≡ counted (length (f i)) → Passed f inc k rest r n
  seek_on {i = i} {rest = rest} e p n q =
      let l = s.small in
      let gone = item_right (f i) (flat_map f rest) r p in
      let few = gone.0 in
      let exact : n ≡ length (f i) = omega (arith, q, few, l) in
      record {
        enough = omega (arith, exact, few);
        next = record { small = omega (arith, l); same = ap (λ (m : ℕ). item_at (flat_map f rest) (r - m)) exact ∙ sym gone.1 ∙ ap (λ (ns : List ℕ). item_at (flat_map f ns) r) (sym e) ∙ s.same };
      }

  pub seek_end : left ≡ [] → None ≡ item_at (joined f 0 inc) k
  seek_end e = ap (λ (ns : List ℕ). item_at (flat_map f ns) r) (sym e) ∙ s.same

-- copying them all

-- a part from n on, lent to be copied over
pub rest_lent : {I : Type 0} (n : ℕ) (b : List I) → take (length b - n) (drop n b) ≡ drop n b
rest_lent n b = between_to_end b n (length b) (le_refl (length b))

pub rest_written : {I : Type 0} (n : ℕ) (b xs part : List I) → part ≡ over xs (take (length b - n) (drop n b)) → put_mid n (length b - n) b part ≡ take n b ++ over xs (drop n b)
rest_written n b xs part e =
    let l = length-drop n b in
    let none : drop (length b - n) (drop n b) ≡ [] = drop_of_length-le (drop n b) (omega (arith, l)) in
    ap (λ (zs : List _). take n b ++ (part ++ zs)) none
    ∙ ap (λ (zs : List _). take n b ++ zs) (append-nil part ∙ e ∙ ap (λ (zs : List _). over xs zs) (rest_lent n b))

-- n items are copied, and the rest goes behind them; b0 is the buffer as it was
pub record Copying {I : Type 0} (f : ℕ → List I) (inc : List Bool) (b0 : List I) (left : List ℕ) (n : ℕ) (b : List I) : Type 0 where
  pub within : n ≤ length b
  pub size : length b ≡ length b0
  pub count : min (n + length (flat_map f left)) (length b0) ≡ min (length (joined f 0 inc)) (length b0)
  pub same : take n b ++ over (flat_map f left) (drop n b) ≡ over (joined f 0 inc) b0

pub copy_first : {I : Type 0} {f : ℕ → List I} {inc : List Bool} {b0 : List I} {left : List ℕ} → left ≡ numbers 0 inc → Copying f inc b0 left 0 b0
copy_first {f = f} {inc = inc} {b0 = b0} e = let j = ap length (joined_numbers f 0 inc) in rw e (record {
  within = omega arith;
  size = refl;
  count = omega (arith, j);
  same = ap (λ (xs : List _). over xs b0) (sym (joined_numbers f 0 inc));
})

module _ {I : Type 0} {f : ℕ → List I} {inc : List Bool} {b0 : List I} {left : List ℕ} {n : ℕ} {b : List I} (c : Copying f inc b0 left n b) where
  -- the member's items went behind the n: m of them, into the rest of the buffer
  pub copy_here : {i : ℕ} {rest : List ℕ} → left ≡ i ∷ rest → (m : ℕ) → m ≡ min (length (f i)) (length (drop n b)) → (b' : List I) → b' ≡ take n b ++ over (f i) (drop n b) → Copying f inc b0 rest (n + m) b'
  copy_here {i = i} {rest = rest} e m p b' q =
      let front = length-take-le n b c.within in
      let part = over (f i) (drop n b) in
      let more = flat_map f rest in
      let whole = ap (flat_map f) e in
      let lw = length_over (f i) (drop n b) in
      let ld = length-drop n b in
      let lb = ap length q ∙ length-append (take n b) part in
      let lj = ap length whole ∙ length-append (f i) more in
      let cw = c.within in let cs = c.size in let cc' = c.count in
      record {
        within = omega (arith, front, lw, ld, lb, p, cw);
        size = omega (arith, front, lw, ld, lb, cs, cw);
        count = omega (arith, lj, cc', p, ld, cs, cw);
        same =
            ap (λ (x : List I). take (n + m) x ++ over more (drop (n + m) x)) q
            ∙ ap (λ (x : List I). x ++ over more (drop (n + m) (take n b ++ part))) (ap (λ (k : ℕ). take (k + m) (take n b ++ part)) (sym front) ∙ take-append-add (take n b) part m)
            ∙ ap (λ (x : List I). (take n b ++ take m part) ++ over more x) (ap (λ (k : ℕ). drop (k + m) (take n b ++ part)) (sym front) ∙ drop-append-add (take n b) part m)
            ∙ append_assoc (take n b) (take m part) (over more (drop m part))
            ∙ ap (λ (x : List I). take n b ++ x) (over_append_within (f i) more (drop n b) m p)
            ∙ ap (λ (x : List I). take n b ++ over x (drop n b)) (sym whole)
            ∙ c.same;
      }

  pub copy_end : left ≡ [] → (n ≡ min (length (joined f 0 inc)) (length b0)) × (b ≡ over (joined f 0 inc) b0)
  copy_end e = let z = ap (flat_map f) e in
      let k = c.count in let w = c.within in let s = c.size in let l = ap length z in
      (omega (arith, k, w, s, l), sym (take-append-drop n b) ∙ ap (λ (xs : List I). take n b ++ over xs (drop n b)) (sym z) ∙ c.same)
