-- The readers of lines accept just the lines of sizes, draws and steps within the bounds.
use Rattle.std.proofs.Common.{◌≡◌, ℕ, ◌<◌, ◌≤◌, Bool, true, false, cond, ◌&&◌, ltb, List, [], ◌∷◌, ◌++◌, map, Some, None, codes, decimal, Option, sym, refl, ap, ◌∙◌, ⊎_elim, arith, lit<}
use Rattle.std.specs.List.{AllByRecursion, join_with_byte}
use Rattle.std.specs.Str.{bytes_eq}
use Rattle.std.proofs.ByRecursion.{All-append, All-weaker, Decides-by_and}
use Rattle.std.proofs.lemmas.Slice.Eq.{bytes_eq-Decides}
use Rattle.std.proofs.lemmas.Bool.{cases_Bool, cond-true, cond-false}
use Rattle.std.proofs.lemmas.Bool.Decides.{Decides-ltb}
use Rattle.plan.specs.Lines.{Line, line_of, line_in, keyed_line}
use Rattle.plan.specs.Lines.Line.{wrong}
use Rattle.plan.specs.Parts.{cut}
use Rattle.plan.specs.Plans.{by_kind, low_in, high_in, draws_in, steps_in}
use Rattle.plan.specs.Texts.{letter, low_text, high_text, draws_text, steps_text, FewDraws, FewSteps}
use Rattle.plan.specs.Values.{size_of, draws_of, steps_of, largest_size}
use Rattle.plan.specs.declared.step.Step.{Step}
use Rattle.plan.specs.declared.step.Step.TheVariants.{View, Simplify, Complicate}
use Rattle.plan.proofs.Cutting.{Rejoins, cut_rejoins}
use Rattle.plan.proofs.Joining.{Above}
use Rattle.plan.proofs.Numerals.{decimal_above}
use Rattle.plan.proofs.Spelling.{Spells, none_some, test_passed}
use Rattle.plan.proofs.ValueTexts.{size_spells, draws_spells, steps_spells, decimals_above}

all_above : List ℕ → Bool
all_above [] = true
all_above (b ∷ bs) = ltb 10 b && all_above bs

-- a text that is written out has no line feed, by computation
plain : (text : List ℕ) → all_above text ≡ true → Above 10 text
unfolding all_above
plain text e = (Decides-by_and (λ b. ltb 10 b) (λ b. 10 < b) all_above (λ b. Decides-ltb 10 b) refl (λ _ _. refl) text).0 e

-- `reads` reads just the lines of this key, and their values by `read`
record Keyed {A : Type 0} (name : List ℕ) (read : List ℕ → Option A) (reads : Line → Option A) : Type 0 where
  above : Above 10 name
  named : (value : List ℕ) → cut 61 (name ++ (61 ∷ value)) ≡ Some (name, value)
  unkeyed : reads wrong ≡ None
  keyed : (key value : List ℕ) → reads (keyed_line key value) ≡ cond (bytes_eq key name) (read value) None

-- the key is this one, or it is another
by_key : {A : Type 0} (name : List ℕ) (read : List ℕ → Option A) (reads : Line → Option A) → all_above name ≡ true
    → ((value : List ℕ) → cut 61 (name ++ (61 ∷ value)) ≡ Some (name, value))
    → reads wrong ≡ None
    → ((value : List ℕ) → reads (keyed_line name value) ≡ read value)
    → ((key value : List ℕ) → bytes_eq key name ≡ false → reads (keyed_line key value) ≡ None)
    → Keyed name read reads
by_key name read reads letters named unkeyed here other =
    record { above = plain name letters; named = named; unkeyed = unkeyed; keyed = keyed }
  where
    keyed : (key value : List ℕ) → reads (keyed_line key value) ≡ cond (bytes_eq key name) (read value) None
    keyed key value =
        ⊎_elim
        (λ e. let same : key ≡ name = (bytes_eq-Decides key name).0 e in
        ap (λ k. reads (keyed_line k value)) same ∙ here value ∙ sym (cond-true (bytes_eq key name) (read value) None e))
        (λ e. other key value e ∙ sym (cond-false (bytes_eq key name) (read value) None e))
        (cases_Bool (bytes_eq key name))

kind_cond : {A : Type 0} (l h d s : List ℕ → Option A) (t : Bool) (x y : Line) → by_kind l h d s (cond t x y) ≡ cond t (by_kind l h d s x) (by_kind l h d s y)
kind_cond l h d s true x y = refl
kind_cond l h d s false x y = refl

cond_same : {A : Type 0} (t : Bool) (x : A) → cond t x x ≡ x
cond_same true x = refl
cond_same false x = refl

low_keyed : Keyed (codes "low") size_of low_in
unfolding all_above
low_keyed = by_key (codes "low") size_of low_in refl (λ _. refl) refl (λ _. refl) (λ k v e. rw e (simp (kind_cond, cond_same)))

high_keyed : Keyed (codes "high") size_of high_in
unfolding all_above
high_keyed = by_key (codes "high") size_of high_in refl (λ _. refl) refl (λ _. refl) (λ k v e. rw e (simp (kind_cond, cond_same)))

draws_keyed : Keyed (codes "draws") draws_of draws_in
unfolding all_above
draws_keyed = by_key (codes "draws") draws_of draws_in refl (λ _. refl) refl (λ _. refl) (λ k v e. rw e (simp (kind_cond, cond_same)))

steps_keyed : Keyed (codes "steps") steps_of steps_in
unfolding all_above
steps_keyed = by_key (codes "steps") steps_of steps_in refl (λ _. refl) refl (λ _. refl) (λ k v e. rw e (simp (kind_cond, cond_same)))

-- a line's reader, with the texts that it accepts, which have no line feed
pub record Form {A : Type 0} (reads : Line → Option A) (write : A → List ℕ) (Fine : A → Type 0) : Type 0 where
  pub unread : reads wrong ≡ None
  pub spells : Spells (λ line. reads (line_of line)) write Fine
  pub above : (x : A) → Fine x → Above 10 (write x)

module _ {A : Type 0} {name : List ℕ} {read : List ℕ → Option A} {reads : Line → Option A} {write : A → List ℕ} {Fine : A → Type 0}
    (k : Keyed name read reads) (s : Spells read write Fine) where
  line_only : (line : List ℕ) (x : A) (p : Option (List ℕ × List ℕ)) → Rejoins 61 line p → reads (line_in p) ≡ Some x → (line ≡ name ++ (61 ∷ write x)) × Fine x
  line_only line x None h e = none_some x (sym k.unkeyed ∙ e)
  line_only line x (Some p) h e =
      let t = test_passed (bytes_eq p.0 name) (read p.1) x (sym (k.keyed p.0 p.1) ∙ e) in
      let o = s.only p.1 x t.1 in
      let same : p.0 ≡ name = (bytes_eq-Decides p.0 name).0 t.0 in
      (h ∙ rw (same, o.0), o.1)

  line_every : (x : A) → Fine x → reads (line_of (name ++ (61 ∷ write x))) ≡ Some x
  line_every x h =
      let same : bytes_eq name name ≡ true = (bytes_eq-Decides name name).1 refl in
      ap (λ p. reads (line_in p)) (k.named (write x)) ∙ k.keyed name (write x) ∙ rw (same, s.every x h)

  form : ((x : A) → Fine x → Above 10 (write x)) → Form reads (λ x. name ++ (61 ∷ write x)) Fine
  form value-above =
      record {
        unread = k.unkeyed;
        spells = record { only = λ line x e. line_only line x (cut 61 line) (cut_rejoins 61 line) e; every = line_every };
        above = λ x h. All-append (λ b. 10 < b) name (61 ∷ write x) k.above (lit< tt, value-above x h);
      }

over_feed : (text : List ℕ) → Above 32 text → Above 10 text
over_feed text h = All-weaker (λ b. 32 < b) (λ b. 10 < b) (λ b k. omega arith) text h

size_above : (n : ℕ) → n ≤ largest_size → Above 10 (decimal n)
size_above n h = over_feed (decimal n) (decimal_above n (omega arith))

join_above : (ps : List (List ℕ)) → AllByRecursion (Above 32) ps → Above 10 (join_with_byte 32 ps)
join_above [] h = tt
join_above (p ∷ []) h = over_feed p h.0
join_above (p ∷ (q ∷ qs)) h = All-append (λ b. 10 < b) p (32 ∷ join_with_byte 32 (q ∷ qs)) (over_feed p h.0) (lit< tt, join_above (q ∷ qs) h.1)

letter_above : (s : Step) → 10 < letter s
letter_above View = lit< tt
letter_above Simplify = lit< tt
letter_above Complicate = lit< tt

letters_above : (ss : List Step) → Above 10 (map letter ss)
letters_above [] = tt
letters_above (s ∷ ss) = (letter_above s, letters_above ss)

pub low_form : Form low_in low_text (λ n. n ≤ largest_size)
low_form = form low_keyed size_spells size_above

pub high_form : Form high_in high_text (λ n. n ≤ largest_size)
high_form = form high_keyed size_spells size_above

pub draws_form : Form draws_in draws_text FewDraws
draws_form = form draws_keyed draws_spells (λ ns h. join_above (map decimal ns) (decimals_above ns h.1))

pub steps_form : Form steps_in steps_text FewSteps
steps_form = form steps_keyed steps_spells (λ ss _. letters_above ss)
