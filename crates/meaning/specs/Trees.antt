-- What a tree means, whatever its kind.
--   candidate    the list of items that a tree shows now
--   home         the candidate to which complicate leads back
--   steps back   how often complicate can still answer true, at most; it need not be stored
--   longest      the stated longest: no candidate has more items
--   grown        whether growth was accepted; a tree that is not grown is blank
--   Stepped      what a step gives: its answer, and the tree after it
--   Steps        a kind of tree with states S and items I: its readings and its two steps
--   Meant        the candidate, home and steps back of one state
--   Simplifies, Complicates   what the two steps mean by their answers
--   Ends         the steps back fall with complicate's answers
--   SimplifyKept, ComplicateKept   what a step keeps: soundness, the meaning of its answer, the longest
--   Total        what holds of a kind of tree at every state, reached or not
--   Keeps        what holds of it at every state that is sound, where soundness is kept by its steps

use Rattle.std.specs.Prelude.{◌≡◌, ℕ, ◌<◌, ◌≤◌, Bool, true, false, ◌⊎◌, List, [], length}

pub record Stepped (S : Type 0) : Type 0 where
  pub answer : Bool
  pub tree : S

-- a step that answers false and changes nothing
abbrev pub stays : {S : Type 0} → S → Stepped S
stays s = record { answer = false; tree = s }

pub record Steps (S I : Type 0) : Type 0 where
  pub grown : S → Bool
  pub candidate : S → List I
  pub home : S → List I
  pub back : S → ℕ
  pub longest : S → ℕ
  -- the place made blank
  pub blank : S → S
  pub simplify : S → Stepped S
  pub complicate : S → Stepped S

pub record Meant (I : Type 0) : Type 0 where
  pub candidate : List I
  pub home : List I
  pub back : ℕ

abbrev pub meant : {S I : Type 0} → Steps S I → S → Meant I
meant t s = record { candidate = t.candidate s; home = t.home s; back = t.back s }

-- simplify, from what was meant before to what is meant after, by its answer
abbrev pub Simplifies : {I : Type 0} → Meant I → Bool → Meant I → Type 0
Simplifies before true now = now.home ≡ before.candidate
Simplifies before false now = (now.candidate ≡ before.candidate) × ((now.home ≡ before.home) ⊎ (now.home ≡ before.candidate))

-- complicate likewise
abbrev pub Complicates : {I : Type 0} → Meant I → Bool → Meant I → Type 0
Complicates before true now = (now.home ≡ before.home) × (now.back < before.back)
Complicates before false now = (now.candidate ≡ before.candidate) × (now.home ≡ before.home) × (before.candidate ≡ before.home) × (now.back ≤ before.back)

-- steps back alone: they fall with each true of complicate, and do not rise with a false
abbrev pub Falls : ℕ → Bool → ℕ → Type 0
Falls before true now = now < before
Falls before false now = now ≤ before

abbrev pub Ends : {S I : Type 0} → Steps S I → S → Type 0
Ends t s = Falls (t.back s) (t.complicate s).answer (t.back (t.complicate s).tree)

abbrev pub SimplifyKept : {S I : Type 0} → Steps S I → (S → Type 0) → S → Stepped S → Type 0
SimplifyKept t sound s r = sound r.tree × Simplifies (meant t s) r.answer (meant t r.tree) × (t.longest r.tree ≡ t.longest s)

abbrev pub ComplicateKept : {S I : Type 0} → Steps S I → (S → Type 0) → S → Stepped S → Type 0
ComplicateKept t sound s r = sound r.tree × Complicates (meant t s) r.answer (meant t r.tree) × (t.longest r.tree ≡ t.longest s)

-- a blank tree: the empty candidate, no step, nothing stated
pub record Blank {S I : Type 0} (t : Steps S I) (s : S) : Type 0 where
  pub shows_none : t.candidate s ≡ []
  pub home_none : t.home s ≡ []
  pub no_back : t.back s ≡ 0
  pub no_longest : t.longest s ≡ 0
  pub no_simplify : (t.simplify s).answer ≡ false
  pub no_complicate : (t.complicate s).answer ≡ false

pub record Total {S I : Type 0} (t : Steps S I) : Type 0 where
  pub ends : (s : S) → Ends t s
  pub simplify_grown : (s : S) → t.grown (t.simplify s).tree ≡ t.grown s
  pub complicate_grown : (s : S) → t.grown (t.complicate s).tree ≡ t.grown s
  pub blank : (s : S) → t.grown s ≡ false → Blank t s
  pub blanks : (s : S) → t.grown (t.blank s) ≡ false

pub record Keeps {S I : Type 0} (t : Steps S I) (sound : S → Type 0) : Type 0 where
  pub fits : (s : S) → sound s → length (t.candidate s) ≤ t.longest s
  pub simplify : (s : S) → sound s → SimplifyKept t sound s (t.simplify s)
  pub complicate : (s : S) → sound s → ComplicateKept t sound s (t.complicate s)
