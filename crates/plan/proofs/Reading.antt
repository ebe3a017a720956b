-- `plan_of` is faithful: it accepts just the texts of plans within the bounds, and names the first wrong line of any other.
use Rattle.std.proofs.Common.{◌≡◌, ℕ, suc, ◌<◌, List, [], ◌∷◌, length, drop, Some, None, Ok, Err, Option, Result, sym, refl, ap, ◌∙◌, subst, add-one, arith}
use Rattle.std.specs.List.{AllByRecursion, join_with_byte}
use Rattle.std.proofs.lemmas.List.{drop-drop}
use Rattle.std.proofs.lemmas.List.Splits.{join_with_byte-slice_split}
use Rattle.plan.specs.Faithful.{lines, Writes, Opens, PlanPart, place, Right, FirstWrong, Faithful, earlier}
use Rattle.plan.specs.Faithful.PlanPart.{low_line, high_line, draws_line, steps_line, end}
use Rattle.plan.specs.Lines.{Line, line_of}
use Rattle.plan.specs.Parts.{cut}
use Rattle.plan.specs.Plans.{PlanText, plan_of, line, given, line_before, text_after, ending, high_in, draws_in, steps_in}
use Rattle.plan.specs.Texts.{closed, plan_text, Within, low_text, high_text, draws_text, steps_text}
use Rattle.plan.specs.declared.step.Step.{Step}
use Rattle.plan.proofs.Cutting.{pieces_whole, pieces_parted, rejoined}
use Rattle.plan.proofs.Joining.{cut_past, pieces_some}
use Rattle.plan.proofs.LineTexts.{Form, low_form, high_form, draws_form, steps_form}
use Rattle.plan.proofs.Spelling.{clash, none_some}

-- one line at the front of a text
module _ {A : Type 0} {reads : Line → Option A} {write : A → List ℕ} {Fine : A → Type 0} (form : Form reads write Fine) where
  cons_opens : (l : List ℕ) (ls : List (List ℕ)) → Opens write Fine (l ∷ ls) → Writes write Fine l
  cons_opens l [] o = absurd o
  cons_opens l (m ∷ ls) o = o

  opens_cons : (l : List ℕ) (ls : List (List ℕ)) → 0 < length ls → Writes write Fine l → Opens write Fine (l ∷ ls)
  opens_cons l [] h w = let z : ⊥ = omega arith in absurd z
  opens_cons l (m ∷ ls) h w = w

  -- the line reads, or it is wrong
  data Outcome (k : ℕ) (text : List ℕ) (go_on : A → List ℕ → Result PlanText ℕ) : Type 0 where
    reads_as : (x : A) (rest : List ℕ) → text ≡ closed (write x) rest → Fine x → line k reads text go_on ≡ go_on x rest → Outcome k text go_on
    is_wrong : (Opens write Fine (lines text) → ⊥) → line k reads text go_on ≡ Err k → Outcome k text go_on

  module _ (k : ℕ) (text : List ℕ) (go_on : A → List ℕ → Result PlanText ℕ) where
    -- what line k comes to, by the parts of the text
    by_parts : Option (List ℕ × List ℕ) → Result PlanText ℕ
    by_parts p = given k (reads (line_before p)) (λ x. go_on x (text_after p))

    read_outcome : (l rest : List ℕ) → Some (l, rest) ≡ cut 10 text → (o : Option A) → reads (line_of l) ≡ o → Outcome k text go_on
    unfolding by_parts
    read_outcome l rest e None n =
        is_wrong
        (λ opens.
        let w = cons_opens l (lines rest) (subst (Opens write Fine) (pieces_parted 10 text e) opens) in
        none_some w.0 (sym n ∙ ap (λ t. reads (line_of t)) w.2 ∙ form.spells.every w.0 w.1))
        (ap by_parts (sym e) ∙ ap (λ o. given k o (λ x. go_on x rest)) n)
    read_outcome l rest e (Some x) n =
        let s = form.spells.only l x n in
        reads_as x rest (rejoined 10 text e ∙ ap (λ t. closed t rest) s.0) s.1
        (ap by_parts (sym e) ∙ ap (λ o. given k o (λ x. go_on x rest)) n)

    parts_outcome : (p : Option (List ℕ × List ℕ)) → p ≡ cut 10 text → Outcome k text go_on
    unfolding by_parts
    parts_outcome None e =
        is_wrong (λ opens. subst (Opens write Fine) (pieces_whole 10 text e) opens)
        (ap by_parts (sym e) ∙ ap (λ o. given k o (λ x. go_on x [])) form.unread)
    parts_outcome (Some p) e = read_outcome p.0 p.1 e (reads (line_of p.0)) refl

    outcome : Outcome k text go_on
    outcome = parts_outcome (cut 10 text) refl

  -- the text of a value is read as the value
  reads_back : (k : ℕ) (x : A) (rest : List ℕ) (go_on : A → List ℕ → Result PlanText ℕ) → Fine x → line k reads (closed (write x) rest) go_on ≡ go_on x rest
  unfolding by_parts
  reads_back k x rest go_on h =
      ap (by_parts k (closed (write x) rest) go_on) (cut_past 10 (write x) rest (form.above x h))
      ∙ ap (λ o. given k o (λ y. go_on y rest)) (form.spells.every x h)

  -- the lines from here on are those of a text that such a line opens
  module _ {ls : List (List ℕ)} {text : List ℕ} (x : A) (rest : List ℕ) (here : ls ≡ lines text) (is : text ≡ closed (write x) rest) (fine : Fine x) where
    lines_closed : ls ≡ write x ∷ lines rest
    lines_closed = here ∙ ap lines is ∙ pieces_parted 10 (closed (write x) rest) (sym (cut_past 10 (write x) rest (form.above x fine)))

    opened : Opens write Fine ls
    opened = subst (Opens write Fine) (sym lines_closed) (opens_cons (write x) (lines rest) (pieces_some 10 rest) (x, fine, refl))

    passed : drop 1 ls ≡ lines rest
    passed = ap (drop 1) lines_closed

drop_suc : {X : Type 0} (n : ℕ) (xs : List X) → drop (suc n) xs ≡ drop 1 (drop n xs)
drop_suc n xs = rw (drop-drop 1 n xs, add-one n)

-- what an answer says of its text
data Tells (text : List ℕ) : Result PlanText ℕ → Type 0 where
  accepts : (p : PlanText) → text ≡ plan_text p → Within p → Tells text (Ok p)
  refuses : (k : ℕ) → FirstWrong k text → Tells text (Err k)

module _ (text : List ℕ) where
  -- the reading is past these parts, which are right; `rest` is left, and `front` puts it behind them again
  record Reached (parts : List PlanPart) (front : List ℕ → List ℕ) (rest : List ℕ) : Type 0 where
    split : text ≡ front rest
    left : drop (length parts) (lines text) ≡ lines rest
    right : AllByRecursion (λ p. Right p text) parts

  -- the next part is a line
  line_tells : {A : Type 0} {reads : Line → Option A} {write : A → List ℕ} {Fine : A → Type 0} (form : Form reads write Fine)
      (part : PlanPart) (front : List ℕ → List ℕ) (rest : List ℕ) (go_on : A → List ℕ → Result PlanText ℕ)
      → (Right part text → Opens write Fine (drop (length (earlier part)) (lines text)))
      → (Opens write Fine (drop (length (earlier part)) (lines text)) → Right part text)
      → Reached (earlier part) front rest
      → ((x : A) (rest' : List ℕ) → Fine x → Reached (part ∷ earlier part) (λ t. front (closed (write x) t)) rest' → Tells text (go_on x rest'))
      → Tells text (line (place part) reads rest go_on)
  line_tells {reads = reads} {write = write} {Fine = Fine} form part front rest go_on to from reached next =
      by (outcome form (place part) rest go_on)
    where
      by : Outcome form (place part) rest go_on → Tells text (line (place part) reads rest go_on)
      by (reads_as x rest' is fine e) =
          subst (Tells text) (sym e)
          (next x rest' fine
          (record {
            split = reached.split ∙ ap front is;
            left = drop_suc (length (earlier part)) (lines text) ∙ passed form x rest' reached.left is fine;
            right = (from (opened form x rest' reached.left is fine), reached.right);
          }))
      by (is_wrong not e) =
          subst (Tells text) (sym e)
          (refuses (place part)
          (record { part = part; here = refl; wrong = λ r. not (subst (Opens write Fine) reached.left (to r)); before = reached.right }))

  -- past the four lines
  end_tells : (p : PlanText) → Within p → (rest : List ℕ)
      → Reached (earlier end) (λ t. closed (low_text p.low) (closed (high_text p.high) (closed (draws_text p.draws) (closed (steps_text p.steps) t)))) rest
      → Tells text (ending (place end) rest p)
  end_tells p within [] reached = accepts p reached.split within
  end_tells p within (b ∷ bs) reached = refuses 5 (record { part = end; here = refl; wrong = wrong; before = reached.right })
    where
      wrong : Right end text → ⊥
      wrong none_left =
          let e : [] ≡ b ∷ bs = ap (join_with_byte 10) (sym none_left ∙ reached.left) ∙ join_with_byte-slice_split 10 (b ∷ bs) in
          omega (arith, ap length e)

  plan_tells : Tells text (plan_of text)
  unfolding plan_of
  plan_tells =
      line_tells low_form low_line (λ t. t) text _ (λ r. r) (λ r. r) (record { split = refl; left = refl; right = tt })
      (λ low text₂ low_fits reached₂. line_tells high_form high_line _ text₂ _ (λ r. r) (λ r. r) reached₂
      (λ high text₃ high_fits reached₃. line_tells draws_form draws_line _ text₃ _ (λ r. r) (λ r. r) reached₃
      (λ draws text₄ draws_fit reached₄. line_tells steps_form steps_line _ text₄ _ (λ r. r) (λ r. r) reached₄
      (λ steps text₅ steps_fit reached₅.
      end_tells (record { low = low; high = high; draws = draws; steps = steps })
      (record { low_fits = low_fits; high_fits = high_fits; draws_fit = draws_fit; steps_fit = steps_fit }) text₅ reached₅))))

accepted_of : {text : List ℕ} {answer : Result PlanText ℕ} → Tells text answer → (p : PlanText) → answer ≡ Ok p → (text ≡ plan_text p) × Within p
accepted_of (accepts q is within) p e = let same : q ≡ p = cc in rw (← same) (is, within)
accepted_of (refuses k first) p e = clash (cc)

refused_of : {text : List ℕ} {answer : Result PlanText ℕ} → Tells text answer → (k : ℕ) → answer ≡ Err k → FirstWrong k text
refused_of (accepts q is within) k e = clash (cc)
refused_of (refuses j first) k e = let same : j ≡ k = cc in rw (← same) first

-- what `plan_of` goes on with after each line
abbrev past_steps : ℕ → ℕ → List ℕ → List Step → List ℕ → Result PlanText ℕ
past_steps low high draws steps text = ending 5 text (record { low = low; high = high; draws = draws; steps = steps })

abbrev past_draws : ℕ → ℕ → List ℕ → List ℕ → Result PlanText ℕ
past_draws low high draws text = line 4 steps_in text (past_steps low high draws)

abbrev past_high : ℕ → ℕ → List ℕ → Result PlanText ℕ
past_high low high text = line 3 draws_in text (past_draws low high)

abbrev past_low : ℕ → List ℕ → Result PlanText ℕ
past_low low text = line 2 high_in text (past_high low)

read_back : (p : PlanText) → Within p → plan_of (plan_text p) ≡ Ok p
unfolding plan_of
read_back p within =
    reads_back low_form 1 p.low _ past_low within.low_fits
    ∙ reads_back high_form 2 p.high _ (past_high p.low) within.high_fits
    ∙ reads_back draws_form 3 p.draws _ (past_draws p.low p.high) within.draws_fit
    ∙ reads_back steps_form 4 p.steps [] (past_steps p.low p.high p.draws) within.steps_fit

pub plan_faithful : (text : List ℕ) → Faithful text (plan_of text)
plan_faithful text =
    record {
      accepted = accepted_of (plan_tells text);
      every = λ p within is. ap plan_of is ∙ read_back p within;
      refused = refused_of (plan_tells text);
    }

pub faithful_at : {text : List ℕ} {answer : Result PlanText ℕ} → answer ≡ plan_of text → Faithful text answer
faithful_at {text} e = subst (Faithful text) (sym e) (plan_faithful text)
