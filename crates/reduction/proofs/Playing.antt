-- Calls and what they leave, one after another.

use Rattle.std.proofs.Common.{◌≡◌, ℕ, suc, ◌+◌, ◌<◌, ◌≤◌, min, Bool, true, List, [], ◌∷◌, ◌++◌, map, length, get_or, take, drop, Some, None, Ok, Err, Option, sym, refl, ap, ◌∙◌, append_assoc, add-one, arith, drop_of_length-le, drop-cons}
use Rattle.draws.specs.Runners.{RunnerState}
use Rattle.draws.specs.declared.faults.GrowFault.{GrowFault}
use Rattle.meaning.specs.declared.reduction.Reduced.{Reduced}
use Rattle.meaning.specs.declared.reduction.ReduceFault.{ReduceFault}
use Rattle.meaning.specs.Trees.{Steps}
use Rattle.meaning.specs.Growths.{Outcome}
use Rattle.meaning.specs.Reductions.{Happening, Event, verdicts, still, Reduction, reduction, refusal, copied, Done, done_after, by_refusal, reduces, reported}
use Rattle.meaning.specs.Reductions.Happening.{start, report}
use Rattle.meaning.specs.Runs.{Call, report_of, reduced, history}
use Rattle.meaning.specs.Runs.Call.{simplifying, complicating, looking, reducing}
use Rattle.reduction.specs.declared.trial.Call.{Call as Entry}
use Rattle.reduction.specs.Trials.{called, left_by, roomy, heard, Left, leaves, played, tried}
use Rattle.reduction.proofs.Giving.{gives_whole}

module _ {S I W : Type 0} (t : Steps S I) (hears : W → Happening I → List I → W) where
  -- events, and more events

  left_append : (h k : List (Event S I)) (s : S) → left_by s (h ++ k) ≡ left_by (left_by s h) k
  left_append [] k s = refl
  left_append (e ∷ h) k s = left_append h k e.after

  copied_append : (h k : List (Event S I)) (b : List I) → copied t (h ++ k) b ≡ copied t k (copied t h b)
  copied_append [] k b = refl
  copied_append (e ∷ h) k b = copied_append h k _

  heard_append : (h k : List (Event S I)) (w : W) → heard t hears (h ++ k) w ≡ heard t hears k (heard t hears h w)
  heard_append [] k w = refl
  heard_append (e ∷ h) k w = heard_append h k _

  leaves_append : (h k : List (Event S I)) (s : S) (b : List I) (w : W) → leaves t hears (h ++ k) s b w ≡ leaves t hears k (left_by s h) (copied t h b) (heard t hears h w)
  leaves_append h k s b w =
      let p = left_append h k s in
      let q = copied_append h k b in
      let r = heard_append h k w in
      cc

  -- a reduction

  abbrev alone : S → List (Event S I)
  alone s = []

  left_reduced : (budget : ℕ) (s : S) (q : Option ReduceFault) (r : Reduction S I) (b : List I) → (by_refusal q s b (done_after t 0 r b)).tree ≡ left_by s (reduced budget s q r alone)
  left_reduced budget s (Some fault) r b = refl
  left_reduced budget s None r b = sym (left_append r.own (still (report (report_of r)) r.left ∷ []) s)

  copied_reduced : (budget : ℕ) (s : S) (q : Option ReduceFault) (r : Reduction S I) (b : List I) → (by_refusal q s b (done_after t 0 r b)).buffer ≡ copied t (reduced budget s q r alone) b
  copied_reduced budget s (Some fault) r b = refl
  copied_reduced budget s None r b = sym (copied_append r.own (still (report (report_of r)) r.left ∷ []) b)

  -- what a reduction leaves, read off its outcome and off its history
  pub left_after : (fails : List I → Bool) (budget : ℕ) (s : S) (b : List I) (w : W) (d : Done S I) (w' : W) → d ≡ reduces t fails budget s b → w' ≡ heard t hears (history t (reducing fails budget (length b) ∷ []) s) w
      → record { tree = d.tree; buffer = d.buffer; witness = w' } ≡ leaves t hears (history t (reducing fails budget (length b) ∷ []) s) s b w
  left_after fails budget s b w d w' e q =
      let r = reduction t fails budget true [] s in
      let p = ap (λ (d : Done S I). d.tree) e ∙ left_reduced budget s (refusal t budget (length b) s) r b in
      let o = ap (λ (d : Done S I). d.buffer) e ∙ copied_reduced budget s (refusal t budget (length b) s) r b in
      cc

  -- a script

  history_reduced : (budget : ℕ) (s : S) (q : Option ReduceFault) (r : Reduction S I) (calls : List (Call I)) → reduced budget s q r (history t calls) ≡ reduced budget s q r alone ++ history t calls (left_by s (reduced budget s q r alone))
  history_reduced budget s (Some fault) r calls = refl
  history_reduced budget s None r calls =
      let last = still (report (report_of r)) r.left in
      let left = left_append r.own (last ∷ []) s in
      ap (λ (h : List (Event S I)). still (start budget) s ∷ h)
      (sym (append_assoc r.own (last ∷ []) (history t calls r.left)) ∙ ap (λ (x : S). (r.own ++ (last ∷ [])) ++ history t calls x) (sym left))

  -- the history of a call and of those behind it
  history_cons : (call : Call I) (calls : List (Call I)) (s : S) → history t (call ∷ calls) s ≡ history t (call ∷ []) s ++ history t calls (left_by s (history t (call ∷ []) s))
  history_cons simplifying calls s = refl
  history_cons complicating calls s = refl
  history_cons looking calls s = refl
  history_cons (reducing fails budget room) calls s = history_reduced budget s (refusal t budget room s) (reduction t fails budget true [] s) calls

  abbrev leaves_by : List (Call I) → S → List I → W → Left S I W
  leaves_by calls s b w = leaves t hears (history t calls s) s b w

  leaves_cons : (call : Call I) (calls : List (Call I)) (s : S) (b : List I) (w : W) (l : Left S I W) → l ≡ leaves_by (call ∷ []) s b w → leaves_by calls l.tree l.buffer l.witness ≡ leaves_by (call ∷ calls) s b w
  leaves_cons call calls s b w l e =
      ap (λ (l : Left S I W). leaves_by calls l.tree l.buffer l.witness) e
      ∙ sym (leaves_append (history t (call ∷ []) s) (history t calls (left_by s (history t (call ∷ []) s))) s b w)
      ∙ ap (λ (h : List (Event S I)). leaves t hears h s b w) (sym (history_cons call calls s))

  -- a trial, by what growth answered

  module _ {X : Type 0} (calls : List (Call I)) (o : Outcome X S) (b : List I) (w : W) where
    pub tried_grown : (r : RunnerState X) (s : S) (l : Left S I W) → record { answer = Ok tt; runner = r; place = s } ≡ o → l ≡ leaves_by calls s b w → record { answer = Ok tt; runner = r; left = l } ≡ tried t hears calls o b w
    tried_grown r s l e q = ap (λ (l : Left S I W). record { answer = Ok tt; runner = r; left = l }) q ∙ ap (λ (o : Outcome X S). tried t hears calls o b w) e

    pub tried_refused : (r : RunnerState X) (s : S) (fault : GrowFault) → record { answer = Err fault; runner = r; place = s } ≡ o → record { answer = Err fault; runner = r; left = record { tree = s; buffer = b; witness = w } } ≡ tried t hears calls o b w
    tried_refused r s fault e = ap (λ (o : Outcome X S). tried t hears calls o b w) e

module _ {S I W : Type 0} (t : Steps S I) (base : W → Happening I → List I → W) where
  -- the report of a reduction, as it is told: what the buffer begins with is the list that it gives
  same_report : (fails : List I → Bool) (budget : ℕ) (s : S) (b : List I) (answer : Reduced) (s' : S) (b' : List I) (w : W) → record { answer = Ok answer; tree = s'; buffer = b' } ≡ done_after t 0 (reduction t fails budget true [] s) b
      → base w (reported answer b') (t.candidate s') ≡ roomy (length b) base w (report (report_of (reduction t fails budget true [] s))) (t.candidate (reduction t fails budget true [] s).left)
  same_report fails budget s b answer s' b' w e =
      let r = reduction t fails budget true [] s in
      let d = done_after t 0 r b in
      let said = ap (λ (d : Done S I). d.answer) e in
      let end : answer.end ≡ r.end = cc in
      let count : answer.verdicts ≡ 0 + verdicts r.own = cc in
      let made : answer.verdicts ≡ verdicts r.own = omega (arith, count) in
      let long : answer.length ≡ min (length r.result) (length b) = cc in
      let list = ap (λ (x : List I). take answer.length x) (ap (λ (d : Done S I). d.buffer) e) ∙ ap (λ (n : ℕ). take n d.buffer) long ∙ gives_whole t fails budget s b in
      let tree = ap (λ (d : Done S I). d.tree) e in
      cc

  -- a reduction that was not refused, from its start to its report
  pub record Whole (fails : List I → Bool) (budget : ℕ) (s : S) (b : List I) (w : W) (answer : Reduced) (s' : S) (b' : List I) (w' : W) : Type 0 where
    pub outcome : record { answer = Ok answer; tree = s'; buffer = b' } ≡ reduces t fails budget s b
    pub told : w' ≡ heard t (roomy (length b) base) (history t (reducing fails budget (length b) ∷ []) s) w

  pub whole : (fails : List I → Bool) (budget : ℕ) (s : S) (b : List I) (w : W) (answer : Reduced) (s' : S) (b' : List I) (w₁ w₂ w₃ : W)
      → None ≡ refusal t budget (length b) s
      → w₁ ≡ base w (start budget) (t.candidate s)
      → record { answer = Ok answer; tree = s'; buffer = b' } ≡ done_after t 0 (reduction t fails budget true [] s) b
      → w₂ ≡ heard t (roomy (length b) base) (reduction t fails budget true [] s).own w₁
      → w₃ ≡ base w₂ (reported answer b') (t.candidate s')
      → Whole fails budget s b w answer s' b' w₃
  whole fails budget s b w answer s' b' w₁ w₂ w₃ e p₁ d p₂ p₃ =
      let r = reduction t fails budget true [] s in
      let last = still (report (report_of r)) r.left in
      record {
        outcome = d ∙ ap (λ (q : Option ReduceFault). by_refusal q s b (done_after t 0 r b)) e;
        told =
            p₃
            ∙ same_report fails budget s b answer s' b' w₂ d
            ∙ ap (λ (x : W). heard t (roomy (length b) base) (last ∷ []) x) (p₂ ∙ ap (λ (x : W). heard t (roomy (length b) base) r.own x) p₁)
            ∙ sym (heard_append t (roomy (length b) base) r.own (last ∷ []) (base w (start budget) (t.candidate s)))
            ∙ ap (λ (q : Option ReduceFault). heard t (roomy (length b) base) (reduced budget s q r (λ x. [])) w) e;
      }

  -- what is left of the script, from entry i on, makes the whole
  module _ {V : Type 0} (judges : V → List I → Bool) (script : List (Entry V)) (i : ℕ) (l all : Left S I W) (p : played t judges base (drop i script) l ≡ all) where
    pub play_on : i < length script → (entry : Entry V) → entry ≡ get_or script i entry → (l' : Left S I W) → length l'.buffer ≡ length l.buffer → l' ≡ played t judges base (entry ∷ []) l → played t judges base (drop (i + 1) script) l' ≡ all
    play_on h entry x l' n e =
        let rest = drop (i + 1) script in
        let room = length l.buffer in
        let here : drop i script ≡ entry ∷ rest = rw (add-one i) (drop-cons script i entry h ∙ ap (λ (y : Entry V). y ∷ drop (suc i) script) (sym x)) in
        ap (λ (m : ℕ). leaves_by t (roomy m base) (map (called judges m) rest) l'.tree l'.buffer l'.witness) n
        ∙ leaves_cons t (roomy room base) (called judges room entry) (map (called judges room) rest) l.tree l.buffer l.witness l' e
        ∙ ap (λ (es : List (Entry V)). played t judges base es l) (sym here)
        ∙ p

    pub play_end : length script ≤ i → l ≡ all
    play_end h = ap (λ (es : List (Entry V)). played t judges base es l) (sym (drop_of_length-le script h)) ∙ p
