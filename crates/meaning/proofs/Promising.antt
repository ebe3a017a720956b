-- The promise over whole runs, of every kind of tree that keeps its meaning.

use Rattle.std.proofs.Common.{◌≡◌, ℕ, zero, suc, ◌+◌, ◌<◌, ◌≤◌, Bool, true, false, cond, eqb, ltb, List, [], ◌∷◌, ◌++◌, length, Some, None, Option, sym, refl, ap, ◌∙◌, subst, le_refl, pos_of_ne-zero, arith, length-append}
use Rattle.std.proofs.lemmas.Bool.{cond_both, ltb-false, eqb-false}
use Rattle.meaning.specs.declared.reduction.End.{End}
use Rattle.meaning.specs.declared.reduction.End.TheVariants.{Passes, Ended, Spent}
use Rattle.meaning.specs.declared.reduction.ReduceFault.{ReduceFault}
use Rattle.meaning.specs.Trees.{Steps, meant, Simplifies, Complicates, Keeps}
use Rattle.meaning.specs.Reductions.{Happening, Event, is_verdict, verdicts, still, step, Reduction, over_at, preceded, reduction, refusal}
use Rattle.meaning.specs.Reductions.Happening.{simplify, complicate, reading, verdict, refused, start, report}
use Rattle.meaning.specs.Runs.{Call, report_of, reduced, history, since, is_true, trues, FalseShows, FalsesShow, AfterTrue, OneWayBack, Throughout, Judged, last_failed, Leads, ComesTo, IsSpent, Reductions, Promised}
use Rattle.meaning.specs.Runs.Call.{simplifying, complicating, looking, reducing}
use Rattle.meaning.proofs.Reducing.{Cases, every_reduction}

-- what is known of the events that follow a tree s
record Good {S I : Type 0} (t : Steps S I) (sound : S → Type 0) (s : S) (h : List (Event S I)) : Type 0 where
  few : trues (since h) ≤ t.back s
  falses : FalsesShow t (t.home s) (since h)
  comes : ComesTo t (t.home s) h
  one_way : OneWayBack t h
  through : Throughout sound h

module _ {S I : Type 0} (t : Steps S I) (sound : S → Type 0) where
  good_none : (s : S) → Good t sound s []
  good_none s = record { few = omega arith; falses = tt; comes = tt; one_way = tt; through = tt }

  good_simplify : (s s' : S) (b : Bool) (h : List (Event S I)) → sound s' → Simplifies (meant t s) b (meant t s') → Good t sound s' h → Good t sound s (step simplify s (record { answer = b; tree = s' }) ∷ h)
  good_simplify s s' true h o l g = record { few = omega arith; falses = tt; comes = tt; one_way = (record { at_most = g.few; falses = subst (λ c. FalsesShow t c (since h)) l g.falses }, g.one_way); through = (o, g.through) }
  good_simplify s s' false h o l g = record { few = omega arith; falses = tt; comes = tt; one_way = (tt, g.one_way); through = (o, g.through) }

  good_complicate : (s s' : S) (b : Bool) (h : List (Event S I)) → sound s' → Complicates (meant t s) b (meant t s') → Good t sound s' h → Good t sound s (step complicate s (record { answer = b; tree = s' }) ∷ h)
  good_complicate s s' true h o l g = record {
    few = omega arith;
    falses = (tt, subst (λ c. FalsesShow t c (since h)) l.0 g.falses);
    comes = subst (λ c. ComesTo t c h) l.0 g.comes;
    one_way = (tt, g.one_way);
    through = (o, g.through);
  }
  good_complicate s s' false h o l g = record {
    few = omega arith;
    falses = (l.0 ∙ l.2, subst (λ c. FalsesShow t c (since h)) l.1 g.falses);
    comes = l.0 ∙ l.2;
    one_way = (tt, g.one_way);
    through = (o, g.through);
  }

  -- an event that is no step, at a tree that stays: it adds nothing, and shows what it should
  abbrev Adds : Happening I → S → List (Event S I) → Type 0
  Adds what s h = (since (still what s ∷ h) ≡ still what s ∷ since h) × (is_true what ≡ 0) × FalseShows what (t.candidate s) (t.home s) × AfterTrue t what s s h × ComesTo t (t.home s) (still what s ∷ h)

  good_still : (what : Happening I) (s : S) (h : List (Event S I)) → Adds what s h → sound s → Good t sound s h → Good t sound s (still what s ∷ h)
  good_still what s h (goes_on, none, shows, one_way, comes) o g = record {
    few = rw goes_on (omega arith);
    falses = rw goes_on (shows, g.falses);
    comes = comes;
    one_way = (one_way, g.one_way);
    through = (o, g.through);
  }

-- complicate until false leads home, in at most as many steps as steps back say

leads_on : {S I : Type 0} (t : Steps S I) (s : S) (n : ℕ) (b : Bool) → (let s' : S = (t.complicate s).tree in (t.complicate s).answer ≡ b → Complicates (meant t s) b (meant t s') → t.back s ≤ n → (t.back s' < n → (m : ℕ) × Leads t m s' (t.home s')) → (m : ℕ) × Leads t m s (t.home s))
leads_on t s n true e l z rest = let q = rest (omega arith) in (suc q.0, (e, subst (λ c. Leads t q.0 (t.complicate s).tree c) l.0 q.1))
leads_on t s n false e l z rest = (zero, (e, l.0 ∙ l.2))

leads : {S I : Type 0} {t : Steps S I} {sound : S → Type 0} (k : Keeps t sound) (n : ℕ) (s : S) → sound s → t.back s ≤ n → (m : ℕ) × Leads t m s (t.home s)
leads {t} k zero s o z = leads_on t s zero (t.complicate s).answer refl (k.complicate s o).1 z (λ l. absurd (omega arith))
leads {t} k (suc n) s o z = leads_on t s (suc n) (t.complicate s).answer refl (k.complicate s o).1 z (λ l. leads k n (t.complicate s).tree (k.complicate s o).0 (omega arith))

-- what a reduction from s keeps, of which the lists judged so far gave this result

last_failed_more : {I : Type 0} (d : List I) (js : List (Judged I)) (j : Judged I) → last_failed d (js ++ (j ∷ [])) ≡ cond j.failed j.list (last_failed d js)
last_failed_more d [] j = refl
last_failed_more d (i ∷ js) j = last_failed_more (cond i.failed i.list d) js j

pub record Law {S I : Type 0} (t : Steps S I) (sound : S → Type 0) (n : ℕ) (so_far : List I) (s : S) (r : Reduction S I) : Type 0 where
  pub sound_left : sound r.left
  within : verdicts r.own ≤ n
  at_home : IsSpent r.end → t.home r.left ≡ r.result
  goes : (h : List (Event S I)) → Good t sound r.left h → Good t sound s (r.own ++ h)
  counts : (budget : ℕ) (js : List (Judged I)) (h : List (Event S I)) → last_failed [] js ≡ so_far →
      ((js' : List (Judged I)) → length js' ≡ length js + verdicts r.own → last_failed [] js' ≡ r.result → Reductions t budget js' h) → Reductions t budget js (r.own ++ h)

module _ {S I : Type 0} (t : Steps S I) (sound : S → Type 0) where
  law_over : (n : ℕ) (end : End) (result : List I) (s : S) → sound s → (IsSpent end → t.home s ≡ result) → Law t sound n result s (over_at end result s)
  law_over n end result s o q = record {
    sound_left = o;
    within = omega arith;
    at_home = q;
    goes = λ h g. g;
    counts = λ budget js h e k. k js (omega arith) e;
  }

  -- an event that is no verdict, and what follows it
  law_step : (n : ℕ) (c : List I) (e : Event S I) (r : Reduction S I) → is_verdict e.what ≡ 0 → ((h : List (Event S I)) → Good t sound e.after h → Good t sound e.before (e ∷ h)) →
      ((budget : ℕ) (js : List (Judged I)) (h : List (Event S I)) → Reductions t budget js h → Reductions t budget js (e ∷ h)) → Law t sound n c e.after r → Law t sound n c e.before (preceded e r)
  law_step n c e r none good counts law = record {
    sound_left = law.sound_left;
    within = omega arith;
    at_home = law.at_home;
    goes = λ h g. good (r.own ++ h) (law.goes h g);
    counts = λ budget js h d k. counts budget js (r.own ++ h) (law.counts budget js h d (λ js' len. k js' (omega arith)));
  }

  -- a verdict, and what follows it
  law_verdict : (n : ℕ) (f : Bool) (so_far : List I) (s : S) (r : Reduction S I) → sound s → Law t sound n (cond f (t.candidate s) so_far) s r → Law t sound (suc n) so_far s (preceded (still (verdict f) s) r)
  law_verdict n f so_far s r o d = record {
    sound_left = d.sound_left;
    within = omega arith;
    at_home = d.at_home;
    goes = λ h g. good_still t sound (verdict f) s (r.own ++ h) (refl, refl, tt, tt, tt) o (d.goes h g);
    counts = λ budget js h e k.
        let j : Judged I = record { list = t.candidate s; failed = f } in
        let l = length-append js (j ∷ []) in
        d.counts budget (js ++ (j ∷ [])) h (last_failed_more [] js j ∙ ap (λ (c : List I). cond f (t.candidate s) c) e) (λ js' len. k js' (omega arith));
  }

module _ {S I : Type 0} {t : Steps S I} {sound : S → Type 0} (k : Keeps t sound) (fails : List I → Bool) where
  law_simplify : (n : ℕ) (c : List I) (s : S) (more : Reduction S I) → sound s → Law t sound n c (t.simplify s).tree more → Law t sound n c s (preceded (step simplify s (t.simplify s)) more)
  law_simplify n c s more o = let r = t.simplify s in let kept = k.simplify s o in law_step t sound n c (step simplify s r) more refl (λ h g. good_simplify t sound s r.tree r.answer h kept.0 kept.1 g) (λ budget js h q. q)

  law_complicate : (n : ℕ) (c : List I) (s : S) (more : Reduction S I) → sound s → Law t sound n c (t.complicate s).tree more → Law t sound n c s (preceded (step complicate s (t.complicate s)) more)
  law_complicate n c s more o = let r = t.complicate s in let kept = k.complicate s o in law_step t sound n c (step complicate s r) more refl (λ h g. good_complicate t sound s r.tree r.answer h kept.0 kept.1 g) (λ budget js h q. q)

  law_ended : (n : ℕ) (c : List I) (s : S) → sound s → Law t sound n c s (over_at Ended c s)
  law_ended n c s o = law_over t sound n Ended c s o (λ spent. absurd spent)

  -- a reduction begins with a budget and no result, and goes on with a failing list behind it
  abbrev Begun : Bool → ℕ → List I → S → Type 0
  Begun true n result s = (result ≡ []) × (0 < n)
  Begun false n result s = t.home s ≡ result

  abbrev Lawful : ℕ → Bool → List I → S → Reduction S I → Type 0
  Lawful n first result s r = sound s → Begun first n result s → Law t sound n result s r

  spent_lawful : (first : Bool) (result : List I) (s : S) → Lawful zero first result s (over_at Spent result s)
  spent_lawful true result s o begun = absurd (omega arith)
  spent_lawful false result s o begun = law_over t sound zero Spent result s o (λ spent. begun)

  lawful : Cases t Lawful
  lawful = record {
    spent = spent_lawful;
    passes = λ n result s o begun. law_verdict t sound n false result s _ o (subst (λ (c : List I). Law t sound n c s (over_at Passes [] s)) (sym begun.0) (law_over t sound n Passes [] s o (λ spent. absurd spent)));
    down = λ n first result s more goes law o begun.
        let kept = k.simplify s o in
        let home = subst (λ (b : Bool). Simplifies (meant t s) b (meant t (t.simplify s).tree)) goes kept.1 in
        law_verdict t sound n true result s _ o (law_simplify n (t.candidate s) s more o (law kept.0 home));
    down_ends = λ n first result s ends o begun. law_verdict t sound n true result s _ o (law_simplify n (t.candidate s) s _ o (law_ended n (t.candidate s) (t.simplify s).tree (k.simplify s o).0));
    up = λ n result s more goes law o begun.
        let kept = k.complicate s o in
        let home = subst (λ (b : Bool). Complicates (meant t s) b (meant t (t.complicate s).tree)) goes kept.1 in
        law_verdict t sound n false result s _ o (law_complicate n result s more o (law kept.0 (home.0 ∙ begun)));
    up_ends = λ n result s ends o begun. law_verdict t sound n false result s _ o (law_complicate n result s _ o (law_ended n result (t.complicate s).tree (k.complicate s o).0));
  }

  pub law_whole : (n : ℕ) (s : S) → sound s → 0 < n → Law t sound n [] s (reduction t fails n true [] s)
  law_whole n s o l = every_reduction t Lawful lawful fails n true [] s o (refl, l)

-- an accepted reduction has room for the stated longest, and a budget
pub accepted : {S I : Type 0} (t : Steps S I) (budget room : ℕ) (s : S) → refusal t budget room s ≡ None → (t.longest s ≤ room) × (0 < budget)
accepted t budget room s = cond_both (ltb room (t.longest s)) _ _ (λ (f : Option ReduceFault). f ≡ None → (t.longest s ≤ room) × (0 < budget))
    (λ short e. absurd (cc))
    (λ fits. cond_both (eqb budget 0) _ _ (λ (f : Option ReduceFault). f ≡ None → (t.longest s ≤ room) × (0 < budget))
    (λ none e. absurd (cc))
    (λ some e. (ltb-false room (t.longest s) fits, pos_of_ne-zero (eqb-false budget 0 some))))

-- whole histories

record Kept {S I : Type 0} (t : Steps S I) (sound : S → Type 0) (s : S) (h : List (Event S I)) : Type 0 where
  good : Good t sound s h
  reports : (budget : ℕ) (js : List (Judged I)) → Reductions t budget js h

module _ {S I : Type 0} {t : Steps S I} {sound : S → Type 0} (k : Keeps t sound) where
  kept_reduction : (fails : List I → Bool) (budget : ℕ) (s : S) (h : S → List (Event S I)) → sound s → 0 < budget → ((s' : S) → sound s' → Kept t sound s' (h s')) → Kept t sound s (reduced budget s None (reduction t fails budget true [] s) h)
  kept_reduction fails budget s h o l next =
      let r = reduction t fails budget true [] s in
      let law = law_whole k fails budget s o l in
      let rest = next r.left law.sound_left in
      record {
        good = good_still t sound (start budget) s _ (refl, refl, tt, tt, tt) o (law.goes _ (good_still t sound (report (report_of r)) r.left (h r.left) (refl, refl, tt, tt, tt) law.sound_left rest.good));
        reports = λ b js. law.counts budget [] (still (report (report_of r)) r.left ∷ h r.left) refl (λ js' len gave. (
          record {
            counted = omega arith;
            within = law.within;
            gave = sym gave;
            way_back = λ spent. subst (λ (c : List I). (n : ℕ) × Leads t n r.left c) (law.at_home spent) (leads k (t.back r.left) r.left law.sound_left (le_refl _));
            comes = λ spent. subst (λ (c : List I). ComesTo t c (h r.left)) (law.at_home spent) rest.good.comes;
          },
          rest.reports 0 [],
        ));
      }

  kept_refused : (f : ReduceFault) (budget : ℕ) (s : S) (r : Reduction S I) (h : S → List (Event S I)) → sound s → Kept t sound s (h s) → Kept t sound s (reduced budget s (Some f) r h)
  kept_refused f budget s r h o next = record { good = good_still t sound (refused f) s (h s) (refl, refl, tt, tt, tt) o next.good; reports = λ b js. next.reports b js }

  kept_asked : (fails : List I → Bool) (budget room : ℕ) (s : S) (h : S → List (Event S I)) → sound s → ((s' : S) → sound s' → Kept t sound s' (h s')) → (f : Option ReduceFault) → refusal t budget room s ≡ f → Kept t sound s (reduced budget s f (reduction t fails budget true [] s) h)
  kept_asked fails budget room s h o next (Some f) e = kept_refused f budget s (reduction t fails budget true [] s) h o (next s o)
  kept_asked fails budget room s h o next None e = kept_reduction fails budget s h o (accepted t budget room s e).1 next

  kept : (calls : List (Call I)) (s : S) → sound s → Kept t sound s (history t calls s)
  kept [] s o = record { good = good_none t sound s; reports = λ b js. tt }
  kept (simplifying ∷ calls) s o =
      let l = k.simplify s o in
      let next = kept calls (t.simplify s).tree l.0 in
      record { good = good_simplify t sound s (t.simplify s).tree (t.simplify s).answer _ l.0 l.1 next.good; reports = λ b js. next.reports b js }
  kept (complicating ∷ calls) s o =
      let l = k.complicate s o in
      let next = kept calls (t.complicate s).tree l.0 in
      record { good = good_complicate t sound s (t.complicate s).tree (t.complicate s).answer _ l.0 l.1 next.good; reports = λ b js. next.reports b js }
  kept (looking ∷ calls) s o =
      let next = kept calls s o in
      record { good = good_still t sound reading s _ (refl, refl, tt, tt, next.good.comes) o next.good; reports = λ b js. next.reports b js }
  kept (reducing fails budget room ∷ calls) s o = kept_asked fails budget room s (history t calls) o (λ s' o'. kept calls s' o') (refusal t budget room s) refl

throughout : {S I : Type 0} {sound shows : S → Type 0} → ((s : S) → sound s → shows s) → (h : List (Event S I)) → Throughout sound h → Throughout shows h
throughout tells [] q = tt
throughout tells (e ∷ h) q = (tells e.after q.0, throughout tells h q.1)

-- the promise, of every kind of tree that keeps its meaning, from any sound state on
pub promised : {S I : Type 0} {t : Steps S I} {sound shows : S → Type 0} → Keeps t sound → ((s : S) → sound s → shows s) → (s : S) → sound s → (calls : List (Call I)) → Promised t shows s (history t calls s)
promised {t = t} k tells s o calls =
    let all = kept k calls s o in
    record {
      one_way_back = all.good.one_way;
      shown_at_first = tells s o;
      shown = throughout tells (history t calls s) all.good.through;
      reductions = all.reports 0 [];
    }
