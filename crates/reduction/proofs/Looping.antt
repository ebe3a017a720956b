-- The loop of a reduction, verdict by verdict, before a witness.

use Rattle.std.proofs.Common.{◌≡◌, ℕ, zero, suc, ◌+◌, ◌<◌, ◌≤◌, min, Bool, true, false, cond, eqb, List, [], length, Ok, sym, refl, ap, ◌∙◌, subst, arith, eq-eqb, ne_eqb}
use Rattle.buffers.specs.Over.{over}
use Rattle.buffers.proofs.Overs.{length_over}
use Rattle.meaning.specs.declared.reduction.End.{End}
use Rattle.meaning.specs.declared.reduction.End.TheVariants.{Passes, Ended, Spent}
use Rattle.meaning.specs.declared.reduction.Reduced.{Reduced}
use Rattle.meaning.specs.Trees.{Stepped, Steps}
use Rattle.meaning.specs.Reductions.{Happening, still, step, Reduction, over_at, preceded, judged, reduction, copied, Done, done_after}
use Rattle.meaning.specs.Reductions.Happening.{simplify, complicate, verdict}
use Rattle.reduction.specs.Trials.{heard}

-- what a reduction does, and the witness after its own events
pub record Course (S I W : Type 0) : Type 0 where
  pub done : Done S I
  pub witness : W

-- a reduction that is over
abbrev pub ends : {S I W : Type 0} → End → (made len : ℕ) → S → List I → W → Course S I W
ends end made len s b w = record { done = record { answer = Ok (record { end = end; verdicts = made; length = len }); tree = s; buffer = b }; witness = w }

-- a course with other numbers that are equal
same_course : {S I W : Type 0} (end : End) (m m' l l' : ℕ) (s : S) (b : List I) (w : W) → m ≡ m' → l ≡ l' → ends end m l s b w ≡ ends end m' l' s b w
same_course end m m' l l' s b w p q = ap (λ (x : ℕ). ends end x l s b w) p ∙ ap (λ (x : ℕ). ends end m' x s b w) q

module _ {S I W : Type 0} (t : Steps S I) (hears : W → Happening I → List I → W) where
  abbrev pub course : ℕ → Reduction S I → List I → W → Course S I W
  course made r b w = record { done = done_after t made r b; witness = heard t hears r.own w }

  -- a verdict is counted, and a list that failed is copied
  after_verdict : (made : ℕ) (f : Bool) (s : S) (r : Reduction S I) (b : List I) (w : W) → course (made + 1) r (cond f (over (t.candidate s) b) b) (hears w (verdict f) (t.candidate s)) ≡ course made (preceded (still (verdict f) s) r) b w
  after_verdict made true s r b w = same_course r.end _ _ _ _ r.left (copied t r.own (over (t.candidate s) b)) (heard t hears r.own (hears w (verdict true) (t.candidate s))) (omega arith) (ap (λ (n : ℕ). min (length r.result) n) (length_over (t.candidate s) b))
  after_verdict made false s r b w = same_course r.end _ _ _ _ r.left (copied t r.own b) (heard t hears r.own (hears w (verdict false) (t.candidate s))) (omega arith) refl

  -- a step is not
  after_simplify : (made : ℕ) (s : S) (st : Stepped S) (r : Reduction S I) (b : List I) (w : W) → course made r b (hears w (simplify st.answer) (t.candidate st.tree)) ≡ course made (preceded (step simplify s st) r) b w
  after_simplify made s st r b w = same_course r.end _ _ _ _ r.left (copied t r.own b) (heard t hears r.own (hears w (simplify st.answer) (t.candidate st.tree))) (omega arith) refl

  after_complicate : (made : ℕ) (s : S) (st : Stepped S) (r : Reduction S I) (b : List I) (w : W) → course made r b (hears w (complicate st.answer) (t.candidate st.tree)) ≡ course made (preceded (step complicate s st) r) b w
  after_complicate made s st r b w = same_course r.end _ _ _ _ r.left (copied t r.own b) (heard t hears r.own (hears w (complicate st.answer) (t.candidate st.tree))) (omega arith) refl

  -- from the first verdict on
  abbrev pub full : (List I → Bool) → ℕ → S → List I → W → Course S I W
  full fails budget s b w = course 0 (reduction t fails budget true [] s) b w

-- what is left of the reduction, from verdict number `number` on, is the whole
pub record Looping {S I W : Type 0} (t : Steps S I) (hears : W → Happening I → List I → W) (fails : List I → Bool) (whole : Course S I W) (budget number len : ℕ) (s : S) (b : List I) (w : W) : Type 0 where
  pub so_far : List I
  pub made : ℕ
  pub rest : ℕ
  pub next : number ≡ made + 1
  pub count : rest + made ≡ budget
  pub long : len ≡ min (length so_far) (length b)
  pub same : course t hears made (reduction t fails rest (eqb made 0) so_far s) b w ≡ whole

-- after the step that followed it, which answered `moved`
pub record Stepping {S I W : Type 0} (t : Steps S I) (hears : W → Happening I → List I → W) (fails : List I → Bool) (whole : Course S I W) (budget number len : ℕ) (moved : Bool) (s : S) (b : List I) (w : W) : Type 0 where
  pub so_far : List I
  pub rest : ℕ
  pub some : number ≡ 0 → ⊥
  pub count : rest + number ≡ budget
  pub long : len ≡ min (length so_far) (length b)
  pub same : course t hears number (cond moved (reduction t fails rest false so_far s) (over_at Ended so_far s)) b w ≡ whole

-- what the code answers of a course
pub record Answered {S I W : Type 0} (whole : Course S I W) (r : Reduced) (s : S) (b : List I) (w : W) : Type 0 where
  pub outcome : record { answer = Ok r; tree = s; buffer = b } ≡ whole.done
  pub told : w ≡ whole.witness

answered : {S I W : Type 0} {whole : Course S I W} (r : Reduced) (s : S) (b : List I) (w : W) → record { done = record { answer = Ok r; tree = s; buffer = b }; witness = w } ≡ whole → Answered whole r s b w
answered r s b w e = record { outcome = ap (λ (c : Course _ _ _). c.done) e; told = ap (λ (c : Course _ _ _). c.witness) e }

pub loop_first : {S I W : Type 0} (t : Steps S I) (hears : W → Happening I → List I → W) (fails : List I → Bool) (budget : ℕ) (s : S) (b : List I) (w : W) → Looping t hears fails (full t hears fails budget s b w) budget 1 0 s b w
loop_first t hears fails budget s b w = record { so_far = []; made = 0; rest = budget; next = refl; count = omega arith; long = omega arith; same = refl }

module _ {S I W : Type 0} {t : Steps S I} {hears : W → Happening I → List I → W} {fails : List I → Bool} {whole : Course S I W} {budget number len : ℕ} {s : S} {b : List I} {w : W} (l : Looping t hears fails whole budget number len s b w) where
  -- what follows that verdict
  abbrev following : (rest : ℕ) (first failed : Bool) → Reduction S I
  following rest first failed = judged t failed first (t.candidate s) l.so_far s (reduction t fails rest false (t.candidate s) (t.simplify s).tree) (reduction t fails rest false l.so_far (t.complicate s).tree)

  -- once it is made, and told
  pub record Judging (failed : Bool) (w' : W) : Type 0 where
    pub rest : ℕ
    pub count : rest + number ≡ budget
    pub same : course t hears number (following rest (eqb l.made 0) failed) (cond failed (over (t.candidate s) b) b) w' ≡ whole

  pub loop_judged : number ≤ budget → (f : Bool) → f ≡ fails (t.candidate s) → (w' : W) → w' ≡ hears w (verdict f) (t.candidate s) → (failed : Bool) → f ≡ failed → Judging failed w'
  loop_judged h f e w' q failed same = subst (λ (f : Bool). Judging f w') same (here l.rest l.count l.same)
    where
      here : (n : ℕ) → n + l.made ≡ budget → course t hears l.made (reduction t fails n (eqb l.made 0) l.so_far s) b w ≡ whole → Judging f w'
      here zero k p = let m = l.next in absurd (omega (arith, k, h, m))
      here (suc n) k p =
          let m = l.next in
          let after = following n (eqb l.made 0) in
          record {
            rest = n;
            count = omega (arith, k, m);
            same = rw (m, q, e) (after_verdict t hears l.made (fails (t.candidate s)) s (after (fails (t.candidate s))) b w ∙ p);
          }

  -- after a fail the candidate is the list so far, and a step is made from it
  pub judged_fail : {w : W} → Judging true w → (n : ℕ) → n ≡ min (length (t.candidate s)) (length b) → (b' : List I) → b' ≡ over (t.candidate s) b → (moved : Bool) (s' : S) → record { answer = moved; tree = s' } ≡ t.simplify s → (w' : W) → w' ≡ hears w (simplify moved) (t.candidate s') → Stepping t hears fails whole budget number n moved s' b' w'
  judged_fail {w} j n e b' q moved s' p w' told =
      let m = l.next in
      let after : Stepped S → Reduction S I = λ st. cond st.answer (reduction t fails j.rest false (t.candidate s) st.tree) (over_at Ended (t.candidate s) st.tree) in
      let made : Stepped S = record { answer = moved; tree = s' } in
      record {
        so_far = t.candidate s;
        rest = j.rest;
        some = λ z. omega (arith, z, m);
        count = j.count;
        long = e ∙ ap (λ (m : ℕ). min (length (t.candidate s)) m) (sym (ap length q ∙ length_over (t.candidate s) b));
        same = rw (q, told) (after_simplify t hears number s made (after made) (over (t.candidate s) b) w ∙ ap (λ (st : Stepped S). course t hears number (preceded (step simplify s st) (after st)) (over (t.candidate s) b) w) p ∙ j.same);
      }

  -- after a pass it matters whether it is the first
  passed : {w : W} (j : Judging false w) (first : Bool) → eqb l.made 0 ≡ first → course t hears number (following j.rest first false) b w ≡ whole
  passed {w} j first e = ap (λ (first : Bool). course t hears number (following j.rest first false) b w) (sym e) ∙ j.same

  pub passed_first : {w : W} → Judging false w → number ≡ 1 → Answered whole (record { end = Passes; verdicts = number; length = 0 }) s b w
  passed_first {w} j e = let m = l.next in answered _ s b w (same_course Passes _ _ _ _ s b w (omega arith) (omega arith) ∙ passed j true (eq-eqb l.made 0 (omega (arith, e, m))))

  -- after a later one a step is made towards the list so far
  pub passed_later : {w : W} → Judging false w → (number ≡ 1 → ⊥) → (moved : Bool) (s' : S) → record { answer = moved; tree = s' } ≡ t.complicate s → (w' : W) → w' ≡ hears w (complicate moved) (t.candidate s') → Stepping t hears fails whole budget number len moved s' b w'
  passed_later {w} j later moved s' p w' told =
      let m = l.next in
      let after : Stepped S → Reduction S I = λ st. cond st.answer (reduction t fails j.rest false l.so_far st.tree) (over_at Ended l.so_far st.tree) in
      let made : Stepped S = record { answer = moved; tree = s' } in
      record {
        so_far = l.so_far;
        rest = j.rest;
        some = λ z. omega (arith, z, m);
        count = j.count;
        long = l.long;
        same = rw told (after_complicate t hears number s made (after made) b w ∙ ap (λ (st : Stepped S). course t hears number (preceded (step complicate s st) (after st)) b w) p ∙ passed j false (ne_eqb l.made 0 (λ z. later (omega (arith, z, m)))));
      }

module _ {S I W : Type 0} {t : Steps S I} {hears : W → Happening I → List I → W} {fails : List I → Bool} {whole : Course S I W} {budget number len : ℕ} {s : S} {b : List I} {w : W} where
  -- no step was left, or the next verdict follows
  pub step_ended : {moved : Bool} → Stepping t hears fails whole budget number len moved s b w → moved ≡ false → Answered whole (record { end = Ended; verdicts = number; length = len }) s b w
  step_ended p e = answered _ s b w (same_course Ended _ _ _ _ s b w (omega arith) p.long ∙ ap (λ (moved : Bool). course t hears number (cond moved (reduction t fails p.rest false p.so_far s) (over_at Ended p.so_far s)) b w) (sym e) ∙ p.same)

  pub step_on : {moved : Bool} → Stepping t hears fails whole budget number len moved s b w → moved ≡ true → Looping t hears fails whole budget (number + 1) len s b w
  step_on p e = record {
    so_far = p.so_far;
    made = number;
    rest = p.rest;
    next = refl;
    count = p.count;
    long = p.long;
    same =
        ap (λ (first : Bool). course t hears number (reduction t fails p.rest first p.so_far s) b w) (ne_eqb number 0 p.some)
        ∙ ap (λ (moved : Bool). course t hears number (cond moved (reduction t fails p.rest false p.so_far s) (over_at Ended p.so_far s)) b w) (sym e)
        ∙ p.same;
  }

  -- no verdict was left
  pub loop_spent : Looping t hears fails whole budget number len s b w → budget < number → Answered whole (record { end = Spent; verdicts = budget; length = len }) s b w
  loop_spent l h = answered _ s b w (here l.rest l.count l.same)
    where
      here : (n : ℕ) → n + l.made ≡ budget → course t hears l.made (reduction t fails n (eqb l.made 0) l.so_far s) b w ≡ whole → ends Spent budget len s b w ≡ whole
      here zero k e = same_course Spent _ _ _ _ s b w (omega (arith, k)) l.long ∙ e
      here (suc n) k e = let m = l.next in absurd (omega (arith, k, h, m))
