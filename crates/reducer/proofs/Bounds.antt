-- How long a session's lines can be: stairs from 0 to 9, at most 64 of them, are shown in at most 130 bytes.
--   Digit, Digits     a number from 0 to 9; at most so many items, each of them a digit
--   Bounded           where P holds, what is shown is at most so many digits, and both steps keep P
--   Low, LowSlot      a stair whose value and home are digits; a place that holds one, grown or not
--   Small             a vector that counts at most so many elements, over a table of which Q holds
--   Leaves            growing keeps P of the place, whatever it answers
--   SmallVector       the session's vector with at most 64 elements, in low slots

use Rattle.std.proofs.Common.{◌≡◌, ℕ, zero, suc, ◌+◌, ◌-◌, ◌*◌, ◌^◌, ◌<◌, ◌≤◌, Bool, true, false, cond, ltb, List, [], ◌∷◌, ◌++◌, length, drop, replicate, IfOk, Some, None, Ok, Err, codes, Option, Result, refl, ap, mod-lt, arith, length-append, length-set, lt-ltb}
use borrow.Author.Tests.{false-ltb}
use Rattle.std.specs.List.{flat_map as each_joined, AllByRecursion}
use Rattle.std.proofs.lemmas.Fmt.{decimal_digit}
use Rattle.std.proofs.ByRecursion.{All-append}
use Rattle.std.proofs.lemmas.Result.{IfOk-weaker}
use Rattle.draws.specs.Draws.{drawn}
use Rattle.draws.specs.Sources.{TapeState, Words, tape_words, word}
use Rattle.draws.specs.Runners.{RunnerState, advanced}
use Rattle.draws.specs.declared.faults.DrawFault.{DrawFault}
use Rattle.meaning.specs.Trees.{Stepped, stays, Steps}
use Rattle.meaning.specs.Places.{Bare, Place, grown_step, placed}
use Rattle.meaning.specs.Growths.{Grown, Outcome, Grows}
use Rattle.meaning.specs.Stairs.{StairTree, one_down, returned, noted, bare_stair, stair_steps, stair_at, stair_growth}
use Rattle.meaning.specs.Tables.{at, change_at, slice_table, grow_at, lacking}
use Rattle.meaning.specs.Vectors.{VecTree, all_of, joined, Walked, go_on, walk, deletable, deleted, walked, vec_simplify, vec_complicate, bare_vector, vec_steps, grow_on, grow_from, vec_grown, vec_sized, vec_making, vec_stated, vec_short, vec_grows}
use Rattle.meaning.specs.declared.collection.Shrink.{Shrink}
use Rattle.meaning.specs.declared.collection.Shrink.TheVariants.{DeleteElement, ShrinkElement}
use Rattle.meaning.specs.declared.size_range.SizeFault.TheVariants.{Reversed}
use Rattle.meaning.specs.declared.traits.StrategyFault.{StrategyFault}
use Rattle.plan.specs.Plans.{PlanText}
use Rattle.plan.specs.declared.step.Step.{Step}
use Rattle.plan.specs.declared.step.Step.TheVariants.{View, Simplify, Complicate}
use Rattle.lines.specs.Lines.{flag, spaced, written, line_bytes, page}
use Rattle.reducer.specs.declared.session.SessionFault.TheVariants.{Size}
use Rattle.reducer.specs.Sessions.{turn, says, Vector, vector, most_slots, blank_stair, bench, stair_limit, over_draws, growth, grown, made, begun, Few}

-- digits, and a line of them

abbrev Digit : ℕ → Type 0
Digit n = n ≤ 9

record Digits (most : ℕ) (xs : List ℕ) : Type 0 where
  few : length xs ≤ most
  each : AllByRecursion Digit xs

no_digits : (most : ℕ) → Digits most []
no_digits most = record { few = omega arith; each = tt }

digits_if : {most : ℕ} {xs : List ℕ} (b : Bool) → Digits most xs → Digits most (cond b xs [])
digits_if true d = d
digits_if {most} false d = no_digits most

-- at most one digit before some
digit_more : {most : ℕ} (xs ys : List ℕ) → Digits 1 xs → Digits most ys → Digits (suc most) (xs ++ ys)
digit_more xs ys a b = record {
  few = simp length-append (omega arith);
  each = All-append Digit xs ys a.each b.each;
}

-- each digit takes a space and itself
length_spaced : (xs : List ℕ) → AllByRecursion Digit xs → length (each_joined spaced xs) ≡ 2 * length xs
length_spaced [] h = refl
length_spaced (x ∷ xs) h =
    let one = ap length (decimal_digit x (let l = h.0 in omega arith)) in
    let rest = length_spaced xs h.1 in
    simp length-append (omega arith)

-- a letter, at most 64 digits and a line feed
short_written : (letter xs : List ℕ) → length letter ≡ 1 → Digits most_slots xs → length (written letter xs) ≤ 130
short_written letter xs one d =
    let few = d.few in
    let l = length_spaced xs d.each in
    simp length-append (omega arith)

flag_digit : (b : Bool) → Digits most_slots (flag b ∷ [])
flag_digit true = record { few = omega arith; each = (omega arith, tt) }
flag_digit false = record { few = omega arith; each = (omega arith, tt) }

-- what is shown, and kept by both steps, where P holds

record Bounded {S : Type 0} (most : ℕ) (P : S → Type 0)
    (candidate : S → List ℕ) (simplify complicate : S → Stepped S) : Type 0 where
  shows : (s : S) → P s → Digits most (candidate s)
  simplifies : (s : S) → P s → P (simplify s).tree
  complicates : (s : S) → P s → P (complicate s).tree

abbrev BoundedBare : {B : Type 0} → ℕ → (B → Type 0) → Bare B ℕ → Type 0
BoundedBare most P b = Bounded most P b.candidate b.simplify b.complicate

abbrev BoundedSteps : {S : Type 0} → ℕ → (S → Type 0) → Steps S ℕ → Type 0
BoundedSteps most P t = Bounded most P t.candidate t.simplify t.complicate

-- a place, which shows nothing and stays as it is where it is blank
module _ {B : Type 0} {most : ℕ} {P : B → Type 0} (b : Bare B ℕ) (k : BoundedBare most P b) where
  step_placed : (grown : Bool) (tree : B) (s : Stepped B) → P tree → P s.tree
      → P (cond grown (grown_step s) (stays (record { grown = grown; tree = tree }))).tree.tree
  step_placed true tree s before after = after
  step_placed false tree s before after = before

  bounded_placed : BoundedSteps most (λ p. P p.tree) (placed b)
  bounded_placed = record {
    shows = λ p h. digits_if p.grown (k.shows p.tree h);
    simplifies = λ p h. step_placed p.grown p.tree (b.simplify p.tree) h (k.simplifies p.tree h);
    complicates = λ p h. step_placed p.grown p.tree (b.complicate p.tree) h (k.complicates p.tree h);
  }

-- the stair

record Low (s : StairTree) : Type 0 where
  shown : Digit s.value
  home : Digit (noted s.value s.note)

low_down : (s : StairTree) (b : Bool) → Low s → Low (cond b (one_down s) (stays s)).tree
low_down s true l = record { shown = omega (arith, l.shown); home = l.shown }
low_down s false l = l

low_returned : (s : StairTree) (note : Option ℕ) → Low s → Digit (noted s.value note) → Low (returned s note).tree
low_returned s None l h = l
low_returned s (Some v) l h = record { shown = h; home = h }

abbrev LowSlot : Place StairTree → Type 0
LowSlot p = Low p.tree

bounded_stair : BoundedSteps 1 LowSlot stair_steps
bounded_stair = bounded_placed {P = Low} bare_stair (record {
  shows = λ s l. record { few = omega arith; each = (l.shown, tt) };
  simplifies = λ s l. low_down s (ltb s.floor s.value) l;
  complicates = λ s l. low_returned s s.note l l.home;
})

-- a tree of a slice: its steps keep what holds of every slot

module _ {S : Type 0} {most : ℕ} {P : S → Type 0} (t : Steps S ℕ) (k : BoundedSteps most P t) where
  shown_at : (xs : List S) (i : ℕ) → AllByRecursion P xs → Digits most (at t.candidate [] xs i)
  shown_at [] i h = no_digits most
  shown_at (x ∷ xs) zero h = k.shows x h.0
  shown_at (x ∷ xs) (suc i) h = shown_at xs i h.1

  all_changed : (f : S → S) → ((s : S) → P s → P (f s)) → (xs : List S) (i : ℕ) → AllByRecursion P xs → AllByRecursion P (change_at f xs i)
  all_changed f keeps [] i h = tt
  all_changed f keeps (x ∷ xs) zero h = (keeps x h.0, h.1)
  all_changed f keeps (x ∷ xs) (suc i) h = (h.0, all_changed f keeps xs i h.1)

  bounded_slot : (i : ℕ) → BoundedSteps most (AllByRecursion P) (slice_table t i)
  bounded_slot i = record {
    shows = λ xs h. shown_at xs i h;
    simplifies = λ xs h. all_changed (λ s. (t.simplify s).tree) k.simplifies xs i h;
    complicates = λ xs h. all_changed (λ s. (t.complicate s).tree) k.complicates xs i h;
  }

-- the vector, over a table whose trees show at most one digit each

record Small {T : Type 0} (most : ℕ) (Q : T → Type 0) (v : VecTree T) : Type 0 where
  over : Q v.elements
  few : length v.included ≤ most

module _ {T : Type 0} {Q : T → Type 0} (table : ℕ → Steps T ℕ) (k : (i : ℕ) → BoundedSteps 1 Q (table i)) where
  -- no more digits than elements
  shown_joined : (t : T) → Q t → (i : ℕ) (bs : List Bool) → Digits (length bs) (joined (λ i. (table i).candidate t) i bs)
  shown_joined t q i [] = no_digits 0
  shown_joined t q i (b ∷ bs) = digit_more _ _ (digits_if b ((k i).shows t q)) (shown_joined t q (suc i) bs)

  walk_on : (i : ℕ) (answer : Bool) (t : T) (next : T → Walked T) → Q t → ((t : T) → Q t → Q (next t).elements)
      → Q (go_on i (record { answer = answer; tree = t }) next).elements
  walk_on i true t next q rest = q
  walk_on i false t next q rest = rest t q

  -- a walk steps one element after another, and so keeps Q
  walk_all : (bs : List Bool) (i : ℕ) (t : T) → Q t → Q (walk table bs i t).elements
  walk_all [] i t q = q
  walk_all (false ∷ bs) i t q = walk_all bs (suc i) t q
  walk_all (true ∷ bs) i t q =
      let s = (table i).simplify t in
      walk_on i s.answer s.tree (walk table bs (suc i)) ((k i).simplifies t q) (walk_all bs (suc i))

  small_walked : {most : ℕ} (v : VecTree T) (bs : List Bool) (i : ℕ) → Small most Q v
      → Small most Q (walked v (walk table bs i v.elements)).tree
  small_walked v bs i s = record { over = walk_all bs i v.elements s.over; few = s.few }

  small_delete : {most : ℕ} (v : VecTree T) (ix : ℕ) (b : Bool) → Small most Q v
      → Small most Q (cond b (deleted v ix) (walked v (walk table v.included 0 v.elements))).tree
  small_delete v ix true s = record { over = s.over; few = simp length-set s.few }
  small_delete v ix false s = small_walked v v.included 0 s

  small_simplify : {most : ℕ} (v : VecTree T) (shrink : Shrink) → Small most Q v
      → Small most Q (vec_simplify table v shrink).tree
  small_simplify v (DeleteElement ix) s = small_delete v ix (deletable v ix) s
  small_simplify v (ShrinkElement ix) s = small_walked v (drop ix v.included) ix s

  small_complicate : {most : ℕ} (v : VecTree T) (note : Option Shrink) → Small most Q v
      → Small most Q (vec_complicate table v note).tree
  small_complicate v None s = s
  small_complicate v (Some (DeleteElement ix)) s = record { over = s.over; few = simp length-set s.few }
  small_complicate v (Some (ShrinkElement ix)) s = record {
    over = (k ix).complicates v.elements s.over;
    few = s.few;
  }

  small_shown : {most : ℕ} (v : VecTree T) → Small most Q v → Digits most ((bare_vector table).candidate v)
  small_shown v s =
      let d = shown_joined v.elements s.over 0 v.included in
      record { few = omega (arith, d.few, s.few); each = d.each }

  bounded_vector : (most : ℕ) → BoundedSteps most (λ p. Small most Q p.tree) (vec_steps table)
  bounded_vector most = bounded_placed {P = Small most Q} (bare_vector table) (record {
    shows = small_shown;
    simplifies = λ v s. small_simplify v v.shrink s;
    complicates = λ v s. small_complicate v v.prev_shrink s;
  })

-- growth

-- a draw from a to b is at most b
drawn_most : (a b : ℕ) → a ≤ b → b < 2 ^ 64 - 1 → (w : Option ℕ) → IfOk (drawn a b w) (λ n. n ≤ b)
drawn_most a b h l None = tt
drawn_most a b h l (Some w) =
    let narrow = lt-ltb (b - a) (2 ^ 64 - 1) (omega arith) in
    let m = mod-lt w {m = b - a + 1} (omega arith) in
    rw narrow (omega arith)

abbrev Leaves : {X S : Type 0} → (S → Type 0) → Grows X S → Type 0
Leaves {X} {S} P g = (r : RunnerState X) (s : S) → P s → P (g r s).place

low_grown : {X : Type 0} (p : Place StairTree) (r : RunnerState X) (d : Result ℕ DrawFault) → IfOk d Digit → LowSlot p
    → LowSlot (stair_at p r d).place
low_grown p r (Ok v) h l = record { shown = h; home = h }
low_grown p r (Err fault) h l = l

grows_slot : {X S : Type 0} {P : S → Type 0} (g : Grows X S) → Leaves P g → (i : ℕ) → Leaves (AllByRecursion P) (grow_at g i)
grows_slot g keeps i r [] h = tt
grows_slot g keeps zero r (x ∷ xs) h = (keeps r x h.0, h.1)
grows_slot g keeps (suc i) r (x ∷ xs) h = (h.0, grows_slot g keeps i r xs h.1)

length_all_of : (n : ℕ) → length (all_of n) ≡ n
length_all_of zero = refl
length_all_of (suc n) = ap suc (length_all_of n)

-- a vector whose elements' growth keeps Q of the table
module _ {X T : Type 0} {Q : T → Type 0} (g : ℕ → Grows X T) (keeps : (i : ℕ) → Leaves Q (g i)) where
  grows_on : (i : ℕ) (o : Outcome X T) (answer : Grown) (next : Grows X T) → Q o.place → Leaves Q next
      → Q (grow_on i o answer next).place
  grows_on i o (Ok _) next q rest = rest o.runner o.place q
  grows_on i o (Err fault) next q rest = q

  grows_from : (n i : ℕ) → Leaves Q (grow_from g n i)
  grows_from zero i r t q = q
  grows_from (suc n) i r t q =
      let o = g i r t in
      grows_on i o o.answer (grow_from g n (suc i)) (keeps i r t q) (grows_from n (suc i))

  small_grown : {most : ℕ} (low longest n : ℕ) (v : VecTree T) (o : Outcome X T) (answer : Grown)
      → n ≤ most → Small most Q v → Q o.place → Small most Q (vec_grown low longest n v o answer).place.tree
  small_grown low longest n v o (Ok _) h s q = record { over = q; few = rw length_all_of h }
  small_grown low longest n v o (Err fault) h s q = record { over = q; few = s.few }

  small_sized : {most : ℕ} (low longest : ℕ) (v : VecTree T) (r : RunnerState X) (d : Result ℕ DrawFault)
      → IfOk d (λ n. n ≤ most) → Small most Q v → Small most Q (vec_sized g low longest v r d).place.tree
  small_sized low longest v r (Err fault) h s = s
  small_sized low longest v r (Ok n) h s =
      let o = grow_from g n 0 r v.elements in
      small_grown low longest n v o o.answer h s (grows_from n 0 r v.elements s.over)

  small_grows : {most : ℕ} (w : Words X) (short : Bool) (low high longest : ℕ) (r : RunnerState X) (p : Place (VecTree T))
      → low ≤ high → high ≤ most → most < 2 ^ 64 - 1 → Small most Q p.tree
      → Small most Q (vec_grows w g short low high longest r p).place.tree
  small_grows w true low high longest r p h l m s = s
  small_grows {most} w false low high longest r p h l m s =
      let d = drawn low high (word w r.source) in
      let size = drawn_most low high h (omega arith) (word w r.source) in
      let fits = IfOk-weaker d (λ n. n ≤ high) (λ n. n ≤ most) (λ n k. omega arith) size in
      small_sized low longest p.tree (advanced w r) d fits s

-- the session's vector

abbrev SmallVector : Vector → Type 0
SmallVector v = Small most_slots (AllByRecursion LowSlot) v.tree

bounded_session : BoundedSteps most_slots SmallVector vector
bounded_session = bounded_vector (slice_table stair_steps) (bounded_slot stair_steps bounded_stair) most_slots

grows_stair : (plan : PlanText) → Leaves LowSlot (stair_growth (λ p. stair_limit) plan TapeState tape_words)
grows_stair plan r p l =
    let w = word tape_words r.source in
    let digit = drawn_most 0 stair_limit (omega arith) (omega arith) w in
    low_grown p (advanced tape_words r) (drawn 0 stair_limit w) digit l

small_growth : (plan : PlanText) (v : Vector) → plan.low ≤ plan.high → plan.high ≤ most_slots → SmallVector v
    → SmallVector (growth plan v).place
small_growth plan v h l s =
    let stair = stair_growth (λ p. stair_limit) plan TapeState tape_words in
    let short = vec_short (lacking (λ p. false)) (λ n. n * 1) plan.high v in
    let longest = vec_stated (λ n. n * 1) plan.high in
    small_grows (grow_at stair) (grows_slot stair (grows_stair plan))
    tape_words short plan.low plan.high longest (over_draws plan.draws) v h l (omega arith) s

small_made : (plan : PlanText) (v : Vector) (m : Result (Unit {0}) StrategyFault)
    → SmallVector v → SmallVector (growth plan v).place → SmallVector (made plan v m).leaves
small_made plan v (Err fault) before after = before
small_made plan v (Ok _) before after = either_answer (growth plan v) (growth plan v).answer after
  where
    either_answer : (o : Outcome TapeState Vector) (answer : Grown) → SmallVector o.place → SmallVector (grown o answer).leaves
    either_answer o (Ok _) after = after
    either_answer o (Err fault) after = after

-- nothing grows where the sizes are reversed
small_begun : (plan : PlanText) (v : Vector) → plan.high ≤ most_slots → SmallVector v → SmallVector (begun plan v).leaves
small_begun plan v l s = either_way (ltb plan.high plan.low) refl
  where
    making : Result (Unit {0}) StrategyFault
    making = vec_making plan.high (plan.high * 1)

    either_way : (b : Bool) → b ≡ ltb plan.high plan.low
        → SmallVector (cond b (record { answer = Err (Size Reversed); leaves = v }) (made plan v making)).leaves
    either_way true e = s
    either_way false e = small_made plan v making s (small_growth plan v (false-ltb plan.high plan.low e) l s)

all_replicate : {S : Type 0} (P : S → Type 0) (n : ℕ) (x : S) → P x → AllByRecursion P (replicate n x)
all_replicate P zero x h = tt
all_replicate P (suc n) x h = (h, all_replicate P n x h)

small_bench : SmallVector bench
small_bench = record {
  over = all_replicate LowSlot most_slots blank_stair (record { shown = omega arith; home = omega arith });
  few = omega arith;
}

-- the lines of any steps

module _ {S : Type 0} {P : S → Type 0} (t : Steps S ℕ) (k : BoundedSteps most_slots P t) where
  turn_keeps : (step : Step) (s : S) → P s → P (turn t step s).leaves
  turn_keeps View s h = h
  turn_keeps Simplify s h = k.simplifies s h
  turn_keeps Complicate s h = k.complicates s h

  few_said : (steps : List Step) (s : S) → P s → Few most_slots t steps s
  few_said [] s h = tt
  few_said (step ∷ steps) s h = ((k.shows s h).few, few_said steps (turn t step s).leaves (turn_keeps step s h))

  short_line : (step : Step) (s : S) → P s → length (line_bytes (turn t step s).says) ≤ 130
  short_line View s h = short_written (codes "v") (t.candidate s) refl (k.shows s h)
  short_line Simplify s h = short_written (codes "s") _ refl (flag_digit (t.simplify s).answer)
  short_line Complicate s h = short_written (codes "c") _ refl (flag_digit (t.complicate s).answer)

  short_said : (steps : List Step) (s : S) → P s → length (page (says t steps s)) ≤ 130 * length steps
  short_said [] s h = omega arith
  short_said (step ∷ steps) s h =
      let line = short_line step s h in
      let rest = short_said steps (turn t step s).leaves (turn_keeps step s h) in
      simp length-append (omega arith)

-- from the bench on, whatever growth answered: no candidate of more than 64 items, and no more than 130 bytes to a step

pub few_begun : (plan : PlanText) → plan.high ≤ 64 → Few most_slots vector plan.steps (begun plan bench).leaves
few_begun plan h = few_said vector bounded_session plan.steps (begun plan bench).leaves (small_begun plan bench h small_bench)

pub short_begun : (plan : PlanText) → plan.high ≤ 64
    → length (page (says vector plan.steps (begun plan bench).leaves)) ≤ 130 * length plan.steps
short_begun plan h = short_said vector bounded_session plan.steps (begun plan bench).leaves (small_begun plan bench h small_bench)
