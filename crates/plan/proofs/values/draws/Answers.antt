use Rattle.std.proofs.Common.{◌≡◌, ℕ, ◌==◌, ◌<◌, ◌+◌, List, ◌∷◌, length, get_or, drop, sym, ap, ◌∙◌, rules, arith}
use Rattle.std.proofs.lemmas.Iterator.Consumers.{YieldsList-turn, YieldsList-end}
use Rattle.std.proofs.lemmas.Iterator.Splits.{YieldsList-from_slice_split}
use Rattle.std.proofs.lemmas.List.{drop_more, drop_all, length_push}
use borrow.Author.Tests.{tests}
use Rattle.plan.specs.Parts.{pieces}
use Rattle.plan.proofs.Gathering.{ends, stops_unread, stops_full, goes_on}
use Rattle.plan.proofs.values.draws.Goals as goal

-- the word of this turn is the first of those that are left
next_word : (words : List (List ℕ)) (i : ℕ) (word : List ℕ) → (i < length words) × (word ≡ get_or words i word) → drop i words ≡ word ∷ drop (i + 1) words
next_word words i word h = drop_more words i word h.0 ∙ ap (λ w. w ∷ drop (i + 1) words) (sym h.1)

pub returns-in_err-number : goal.returns-in_err-number
returns-in_err-number c =
    let turn = next_word _ _ _ (YieldsList-turn (YieldsList-from_slice_split _ (λ b. b == 32) c.args.value.now (cc) (cc) (cc) (λ x b q k. search (rules, tests)))
    c.loop-word.yielded _ c.loop-word.yielded_by _ _ c.in-Some.word c.in-Some.is c.next.ensures.steps) in
    rw c.from_residual.ensures (stops_unread c.loop-word.invariant.2 turn c.in_err-number.ensures)

pub loop-word-preserved : goal.loop-word-preserved
loop-word-preserved c =
    let turn = next_word _ _ _ (YieldsList-turn (YieldsList-from_slice_split _ (λ b. b == 32) c.args.value.now (cc) (cc) (cc) (λ x b q k. search (rules, tests)))
    c.loop-word.yielded _ c.loop-word.yielded_by _ _ c.in-Some.word c.in-Some.is c.next.ensures.steps) in
    (search rules, search rules, rw length_push (goes_on c.loop-word.invariant.2 turn c.in_ok-number.ensures (search rules) (search rules)))

pub returns-in_err-ok : goal.returns-in_err-ok
returns-in_err-ok c =
    let turn = next_word _ _ _ (YieldsList-turn (YieldsList-from_slice_split _ (λ b. b == 32) c.args.value.now (cc) (cc) (cc) (λ x b q k. search (rules, tests)))
    c.loop-word.yielded _ c.loop-word.yielded_by _ _ c.in-Some.word c.in-Some.is c.next.ensures.steps) in
    rw c.from_residual-in_err-ok.ensures (stops_full c.loop-word.invariant.2 turn (search rules))

pub returns : goal.returns
returns c =
    let end = YieldsList-end (YieldsList-from_slice_split _ (λ b. b == 32) c.args.value.now (cc) (cc) (cc) (λ x b q k. search (rules, tests)))
    c.loop-word.yielded _ c.loop-word.yielded_by _ _ c.in-None.is c.next.ensures.steps in
    ends c.loop-word.invariant.2 (drop_all (length c.loop-word.yielded) (pieces 32 c.args.value.now) (omega arith))
