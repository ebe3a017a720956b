-- What a sound tree's reductions give fits a buffer that has room for the stated longest, so a witness hears of it whole.

use Rattle.std.proofs.Common.{◌≡◌, ℕ, ◌≤◌, Bool, true, List, [], ◌∷◌, ◌++◌, map, length, Some, None, Ok, Option, refl, ap, ◌∙◌, arith, take_all}
use Rattle.meaning.specs.declared.reduction.ReduceFault.{ReduceFault}
use Rattle.meaning.specs.Trees.{Steps, Keeps}
use Rattle.meaning.specs.Growths.{Outcome}
use Rattle.meaning.specs.Reductions.{Happening, Event, still, Reduction, reduction, refusal, copied}
use Rattle.meaning.specs.Reductions.Happening.{report}
use Rattle.meaning.specs.Runs.{report_of, reduced, history}
use Rattle.meaning.proofs.Promising.{accepted, law_whole}
use Rattle.reduction.proofs.Along.{Cases, along}
use Rattle.reduction.specs.declared.trial.Call.{Call as Entry}
use Rattle.reduction.specs.declared.trial.Call.TheVariants.{Simplify, Complicate, Look, Reduce}
use Rattle.reduction.specs.Trials.{called, left_by, roomy, heard, tried, Tried}

module _ {S I W : Type 0} {t : Steps S I} {sound : S → Type 0} (k : Keeps t sound) (hears : W → Happening I → List I → W) (room : ℕ) where
  -- events that are told whole
  abbrev Told : List (Event S I) → Type 0
  Told h = (w : W) → heard t (roomy room hears) h w ≡ heard t hears h w

  -- what a reduction does, where so many items are stated
  record Fits (most : ℕ) (r : Reduction S I) : Type 0 where
    own : (h : List (Event S I)) → Told h → Told (r.own ++ h)
    fits : length r.result ≤ most

  -- from a sound state, where the list that failed last is no longer than stated
  abbrev FitsFrom : ℕ → List I → S → Reduction S I → Type 0
  FitsFrom most result s r = sound s → t.longest s ≡ most → length result ≤ most → Fits most r

  fits_cases : (most : ℕ) → Cases t (FitsFrom most)
  fits_cases most = record {
    over = λ end result s o e l. record { own = λ h p. p; fits = l };
    passes = λ result s o e l. record { own = λ h p w. p _; fits = omega arith };
    down = λ result s more f o e l.
        let c = k.fits s o in
        let q = f (k.simplify s o).0 ((k.simplify s o).2 ∙ e) (omega (arith, c, e)) in
        record { own = λ h p w. q.own h p _; fits = q.fits };
    up = λ result s more f o e l.
        let q = f (k.complicate s o).0 ((k.complicate s o).2 ∙ e) l in
        record { own = λ h p w. q.own h p _; fits = q.fits };
  }

  told_reduced : (fails : List I → Bool) (budget : ℕ) (s : S) (h : S → List (Event S I)) → sound s → ((s' : S) → sound s' → Told (h s')) → (q : Option ReduceFault) → refusal t budget room s ≡ q → Told (reduced budget s q (reduction t fails budget true [] s) h)
  told_reduced fails budget s h o next (Some fault) e w = next s o _
  told_reduced fails budget s h o next None e w =
      let r = reduction t fails budget true [] s in
      let f = along (FitsFrom (t.longest s)) (fits_cases (t.longest s)) fails budget true [] s o refl (omega arith) in
      let a = accepted t budget room s e in
      let whole = take_all room r.result (let fit = f.fits in let left = a.0 in omega (arith, fit, left)) in
      let tell : List I → W → W = λ result w. hears w (report (record { end = r.end; verdicts = (report_of r).verdicts; result = result })) (t.candidate r.left) in
      f.own (still (report (report_of r)) r.left ∷ h r.left) (λ w. ap (λ result. heard t (roomy room hears) (h r.left) (tell result w)) whole ∙ next r.left (law_whole k fails budget s o a.1).sound_left _) _

  module _ {V : Type 0} (judges : V → List I → Bool) where
    told_history : (script : List (Entry V)) (s : S) → sound s → Told (history t (map (called judges room) script) s)
    told_history [] s o w = refl
    told_history (Simplify ∷ script) s o w = told_history script (t.simplify s).tree (k.simplify s o).0 _
    told_history (Complicate ∷ script) s o w = told_history script (t.complicate s).tree (k.complicate s o).0 _
    told_history (Look ∷ script) s o w = told_history script s o _
    told_history (Reduce judge budget ∷ script) s o w = told_reduced (judges judge) budget s (history t (map (called judges room) script)) o (told_history script) (refusal t budget room s) refl w

    -- so a trial is told whole
    pub tried_whole : {X : Type 0} (script : List (Entry V)) (o : Outcome X S) (b : List I) (w : W) → o.answer ≡ Ok tt → sound o.place →
        tried t (roomy room hears) (map (called judges room) script) o b w ≡ tried t hears (map (called judges room) script) o b w
    tried_whole {X} script o b w e s =
        let calls = map (called judges room) script in
        let made : W → Tried X S I W = λ x. record { answer = Ok tt; runner = o.runner; left = record { tree = left_by o.place (history t calls o.place); buffer = copied t (history t calls o.place) b; witness = x } } in
        rw e (ap made (told_history script o.place s w))
