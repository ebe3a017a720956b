-- Whole runs, and what is promised of them.
--   Call            a call on a tree: simplify, complicate, a reading, or a reduction by a verdict with a budget and a result
--                   buffer that has room for so many items
--   history         the events of a list of calls, in order; a reduction contributes its start, its own events and its report
--   since           the events until the next simplify
--   trues           how often complicate answered true
--   OneWayBack      if the latest simplify answered true, complicate has since answered true at most as often as the steps back
--                   then counted, and each false of complicate since showed the candidate from before that simplify
--   Throughout      what holds of the tree after every event
--   last_failed     the last of some judged lists that failed, if one did
--   Leads           complicate answers true so often and then false, and shows a candidate
--   ComesTo         where only readings and complicate follow, the first false of complicate shows a candidate
--   Reported        a reduction answered how many verdicts it made, at most its budget, and gave the last list judged that
--                   failed; where it is spent, complicate leads to that list
--   Reductions      every report of a history is so, counted by the verdicts since its start
--   Promised        all of it, of a history

use Rattle.std.specs.Prelude.{◌≡◌, ℕ, zero, suc, ◌+◌, ◌≤◌, Bool, true, false, cond, List, [], ◌∷◌, ◌++◌, length, Some, None, Option}
use Rattle.meaning.specs.declared.reduction.End.{End}
use Rattle.meaning.specs.declared.reduction.End.TheVariants.{Passes, Ended, Spent}
use Rattle.meaning.specs.declared.reduction.ReduceFault.{ReduceFault}
use Rattle.meaning.specs.Trees.{Steps}
use Rattle.meaning.specs.Reductions.{Report, Happening, Event, verdicts, still, step, Reduction, reduction, refusal}
use Rattle.meaning.specs.Reductions.Happening.{simplify, complicate, reading, verdict, refused, start, report}

pub data Call (I : Type 0) : Type 0 where
  simplifying : Call I
  complicating : Call I
  looking : Call I
  reducing : (fails : List I → Bool) (budget room : ℕ) → Call I

-- the report of a reduction: how many verdicts it made is counted among its own events
abbrev pub report_of : {S I : Type 0} → Reduction S I → Report I
report_of r = record { end = r.end; verdicts = verdicts r.own; result = r.result }

-- a reduction, refused or made: its events, and what follows
abbrev pub reduced : {S I : Type 0} → ℕ → S → Option ReduceFault → Reduction S I → (S → List (Event S I)) → List (Event S I)
reduced budget s (Some fault) r next = still (refused fault) s ∷ next s
reduced budget s None r next = still (start budget) s ∷ (r.own ++ (still (report (report_of r)) r.left ∷ next r.left))

abbrev pub history : {S I : Type 0} → Steps S I → List (Call I) → S → List (Event S I)
history t [] s = []
history t (simplifying ∷ calls) s = step simplify s (t.simplify s) ∷ history t calls (t.simplify s).tree
history t (complicating ∷ calls) s = step complicate s (t.complicate s) ∷ history t calls (t.complicate s).tree
history t (looking ∷ calls) s = still reading s ∷ history t calls s
history t (reducing fails budget room ∷ calls) s = reduced budget s (refusal t budget room s) (reduction t fails budget true [] s) (history t calls)

-- one way back

abbrev pub is_simplify : {I : Type 0} → Happening I → Bool
is_simplify (simplify answer) = true
is_simplify (complicate answer) = false
is_simplify reading = false
is_simplify (verdict failed) = false
is_simplify (refused fault) = false
is_simplify (start budget) = false
is_simplify (report r) = false

abbrev pub since : {S I : Type 0} → List (Event S I) → List (Event S I)
since [] = []
since (e ∷ h) = cond (is_simplify e.what) [] (e ∷ since h)

abbrev pub is_true : {I : Type 0} → Happening I → ℕ
is_true (simplify answer) = 0
is_true (complicate answer) = cond answer 1 0
is_true reading = 0
is_true (verdict failed) = 0
is_true (refused fault) = 0
is_true (start budget) = 0
is_true (report r) = 0

abbrev pub trues : {S I : Type 0} → List (Event S I) → ℕ
trues [] = 0
trues (e ∷ h) = is_true e.what + trues h

-- where it is a false of complicate, this list is shown
abbrev pub FalseShows : {I : Type 0} → Happening I → (shown c : List I) → Type 0
FalseShows (simplify answer) shown c = Unit {0}
FalseShows (complicate true) shown c = Unit {0}
FalseShows (complicate false) shown c = shown ≡ c
FalseShows reading shown c = Unit {0}
FalseShows (verdict failed) shown c = Unit {0}
FalseShows (refused fault) shown c = Unit {0}
FalseShows (start budget) shown c = Unit {0}
FalseShows (report r) shown c = Unit {0}

abbrev pub FalsesShow : {S I : Type 0} → Steps S I → List I → List (Event S I) → Type 0
FalsesShow t c [] = Unit {0}
FalsesShow t c (e ∷ h) = FalseShows e.what (t.candidate e.after) c × FalsesShow t c h

-- what is promised of the events h after a simplify that answered true
pub record WayBack {S I : Type 0} (t : Steps S I) (before after : S) (h : List (Event S I)) : Type 0 where
  pub at_most : trues (since h) ≤ t.back after
  pub falses : FalsesShow t (t.candidate before) (since h)

abbrev pub AfterTrue : {S I : Type 0} → Steps S I → Happening I → (before after : S) → List (Event S I) → Type 0
AfterTrue t (simplify true) before after h = WayBack t before after h
AfterTrue t (simplify false) before after h = Unit {0}
AfterTrue t (complicate answer) before after h = Unit {0}
AfterTrue t reading before after h = Unit {0}
AfterTrue t (verdict failed) before after h = Unit {0}
AfterTrue t (refused fault) before after h = Unit {0}
AfterTrue t (start budget) before after h = Unit {0}
AfterTrue t (report r) before after h = Unit {0}

abbrev pub OneWayBack : {S I : Type 0} → Steps S I → List (Event S I) → Type 0
OneWayBack t [] = Unit {0}
OneWayBack t (e ∷ h) = AfterTrue t e.what e.before e.after h × OneWayBack t h

-- what is shown

abbrev pub Throughout : {S I : Type 0} → (S → Type 0) → List (Event S I) → Type 0
Throughout P [] = Unit {0}
Throughout P (e ∷ h) = P e.after × Throughout P h

-- what a reduction gives

-- a list that was judged, and whether it failed
pub record Judged (I : Type 0) : Type 0 where
  pub list : List I
  pub failed : Bool

abbrev pub last_failed : {I : Type 0} → List I → List (Judged I) → List I
last_failed c [] = c
last_failed c (j ∷ js) = last_failed (cond j.failed j.list c) js

-- n times true, then false, and c is shown
abbrev pub Leads : {S I : Type 0} → Steps S I → ℕ → S → List I → Type 0
Leads t zero s c = ((t.complicate s).answer ≡ false) × (t.candidate (t.complicate s).tree ≡ c)
Leads t (suc n) s c = ((t.complicate s).answer ≡ true) × Leads t n (t.complicate s).tree c

-- one event after a spent reduction: complicate's false shows c; readings and trues go on; anything else is another matter
abbrev pub Comes : {I : Type 0} → Happening I → (shown c : List I) → Type 0 → Type 0
Comes (simplify answer) shown c later = Unit {0}
Comes (complicate true) shown c later = later
Comes (complicate false) shown c later = shown ≡ c
Comes reading shown c later = later
Comes (verdict failed) shown c later = Unit {0}
Comes (refused fault) shown c later = Unit {0}
Comes (start budget) shown c later = Unit {0}
Comes (report r) shown c later = Unit {0}

abbrev pub ComesTo : {S I : Type 0} → Steps S I → List I → List (Event S I) → Type 0
ComesTo t c [] = Unit {0}
ComesTo t c (e ∷ h) = Comes e.what (t.candidate e.after) c (ComesTo t c h)

abbrev pub IsSpent : End → Type 0
IsSpent Passes = ⊥
IsSpent Ended = ⊥
IsSpent Spent = Unit {0}

pub record Reported {S I : Type 0} (t : Steps S I) (budget : ℕ) (judged : List (Judged I)) (r : Report I) (left : S) (later : List (Event S I)) : Type 0 where
  pub counted : r.verdicts ≡ length judged
  pub within : r.verdicts ≤ budget
  pub gave : r.result ≡ last_failed [] judged
  pub way_back : IsSpent r.end → (n : ℕ) × Leads t n left r.result
  pub comes : IsSpent r.end → ComesTo t r.result later

-- one event: a start begins to count anew, a verdict counts, a report is held against what was counted
abbrev pub Going : {S I : Type 0} → Steps S I → (budget : ℕ) → List (Judged I) → Happening I → S → List (Event S I) → (ℕ → List (Judged I) → Type 0) → Type 0
Going t budget judged (simplify answer) s h rest = rest budget judged
Going t budget judged (complicate answer) s h rest = rest budget judged
Going t budget judged reading s h rest = rest budget judged
Going t budget judged (verdict failed) s h rest = rest budget (judged ++ (record { list = t.candidate s; failed = failed } ∷ []))
Going t budget judged (refused fault) s h rest = rest budget judged
Going t budget judged (start own) s h rest = rest own []
Going t budget judged (report r) s h rest = Reported t budget judged r s h × rest 0 []

-- the reductions of the events h: so far a reduction with this budget judged these lists
abbrev pub Reductions : {S I : Type 0} → Steps S I → (budget : ℕ) → List (Judged I) → List (Event S I) → Type 0
Reductions t budget judged [] = Unit {0}
Reductions t budget judged (e ∷ h) = Going t budget judged e.what e.after h (λ b js. Reductions t b js h)

pub record Promised {S I : Type 0} (t : Steps S I) (shows : S → Type 0) (s : S) (h : List (Event S I)) : Type 0 where
  pub one_way_back : OneWayBack t h
  pub shown_at_first : shows s
  pub shown : Throughout shows h
  pub reductions : Reductions t 0 [] h
