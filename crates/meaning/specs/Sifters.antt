-- What Filter and FilterMap share: a source whose candidates are sifted by a function that stands beside it.
--   rule           which candidates are accepted, read off that function
--   Sifter         the source and the function
--   settle_once    asks the rule, and where it does not accept, complicate of the source; goes on where that answers true
--   settle         so often at most; at the bound it still asks the rule and complicate once
--   settled        complicate on the source until the rule accepts or complicate answers false; the bound is its steps back
--   settled_step   a step of the source, settled where it answered true; it answers true even where it came all the way back
--   sifter_steps   the steps of a sifter, which shows what its source does
--   by_rule        what comes of a try: its refusal; its tree, where the rule accepts; else a rejection, and the next try
--                  or, where no rejection was left, a refusal and a blank place
--   tries          so many rejections at most; at the bound it still tries once
--   tried          growing until the rule accepts a candidate or a refusal comes; the bound is the rejections left
--   sifter_growth  an accepted growth takes the strategy's function; a refused one leaves the function as it was
--   sifter_short   whether the source has too few slots
--   Accepted       a source that is sound, and whose candidate and home the rule accepts
--   sifter_sound   the rule that stands beside the source accepts

use Rattle.std.specs.Prelude.{◌≡◌, ℕ, zero, suc, Bool, true, cond, List, Ok, Err, Result}
use Rattle.draws.specs.Runners.{RunnerState, rejection, rejected}
use Rattle.draws.specs.declared.faults.RejectFault.{RejectFault}
use Rattle.draws.specs.declared.faults.RejectFault.TheVariants.{NoneLeft}
use Rattle.meaning.specs.Trees.{Stepped, Steps}
use Rattle.meaning.specs.Growths.{Grown, Outcome, Grows, Growth, none_left}
use Rattle.meaning.specs.Wraps.{Wrap, wrap_growth}

pub record Sifter (S F : Type 0) : Type 0 where
  pub source : S
  pub fun : F

abbrev pub settle_once : {S I : Type 0} → Steps S I → (List I → Bool) → (S → S) → S → S
settle_once t rule next s = cond (rule (t.candidate s)) s (cond (t.complicate s).answer (next (t.complicate s).tree) (t.complicate s).tree)

abbrev pub settle : {S I : Type 0} → Steps S I → (List I → Bool) → ℕ → S → S
settle t rule zero s = settle_once t rule (λ last. last) s
settle t rule (suc n) s = settle_once t rule (settle t rule n) s

abbrev pub settled : {S I : Type 0} → Steps S I → (List I → Bool) → S → S
settled t rule s = settle t rule (t.back s) s

abbrev pub settled_step : {S I : Type 0} → Steps S I → (List I → Bool) → Stepped S → Stepped S
settled_step t rule step = record { answer = step.answer; tree = cond step.answer (settled t rule step.tree) step.tree }

-- another source, with the same function beside it
abbrev pub sifter_replaced : {S F : Type 0} → Sifter S F → S → Sifter S F
sifter_replaced s source = record { source = source; fun = s.fun }

abbrev pub sifted_step : {S F : Type 0} → Sifter S F → Stepped S → Stepped (Sifter S F)
sifted_step s step = record { answer = step.answer; tree = sifter_replaced s step.tree }

abbrev pub sifter_steps : {S I F : Type 0} → Steps S I → (F → List I → Bool) → Steps (Sifter S F) I
sifter_steps t rule = record {
  grown = λ s. t.grown s.source;
  candidate = λ s. t.candidate s.source;
  home = λ s. t.home s.source;
  back = λ s. t.back s.source;
  longest = λ s. t.longest s.source;
  blank = λ s. sifter_replaced s (t.blank s.source);
  simplify = λ s. sifted_step s (settled_step t (rule s.fun) (t.simplify s.source));
  complicate = λ s. sifted_step s (settled_step t (rule s.fun) (t.complicate s.source));
}

-- no rejection was left: a blank place
abbrev pub given_up : {X S I : Type 0} → Steps S I → RejectFault → Grows X S
given_up t fault r s = record { answer = Err (none_left fault); runner = r; place = t.blank s }

-- a rejected tree: the next try, where a rejection was left
abbrev pub turned_down : {X S I : Type 0} → Steps S I → Grows X S → RunnerState X → S → Result (Unit {0}) RejectFault → Outcome X S
turned_down t next r s (Ok _) = next r s
turned_down t next r s (Err fault) = given_up t fault r s

abbrev pub by_rule : {X S I : Type 0} → Steps S I → (List I → Bool) → Grows X S → Outcome X S → Grown → Outcome X S
by_rule t rule next o (Err fault) = record { answer = Err fault; runner = o.runner; place = o.place }
by_rule t rule next o (Ok _) = cond (rule (t.candidate o.place))
    (record { answer = Ok tt; runner = o.runner; place = o.place })
    (turned_down t next (rejected o.runner) o.place (rejection o.runner.rejections))

abbrev pub try_once : {X S I : Type 0} → Steps S I → (List I → Bool) → Grows X S → Grows X S → Grows X S
try_once t rule grows next r s = by_rule t rule next (grows r s) (grows r s).answer

abbrev pub tries : {X S I : Type 0} → Steps S I → (List I → Bool) → Grows X S → ℕ → Grows X S
tries t rule grows zero r s = try_once t rule grows (given_up t NoneLeft) r s
tries t rule grows (suc n) r s = try_once t rule grows (tries t rule grows n) r s

abbrev pub tried : {X S I : Type 0} → Steps S I → (List I → Bool) → Grows X S → Grows X S
tried t rule grows r s = tries t rule grows r.rejections r s

abbrev pub sifter_wrap : {Q S F : Type 0} → (Q → F) → Wrap Q S (Sifter S F)
sifter_wrap fun = record {
  inside = λ s. s.source;
  replaced = sifter_replaced;
  fresh = λ q source. record { source = source; fun = fun q };
}

abbrev pub sifter_growth : {S I F P Q : Type 0} → Steps S I → (F → List I → Bool) → (Q → P) → (Q → F) → Growth P S → Growth Q (Sifter S F)
sifter_growth t rule under fun g = wrap_growth (sifter_wrap fun) (λ q X w. tried t (rule (fun q)) (g (under q) X w))

abbrev pub sifter_short : {S F P Q : Type 0} → (Q → P) → (P → S → Bool) → Q → Sifter S F → Bool
sifter_short under short q s = short (under q) s.source

pub record Accepted {S I : Type 0} (t : Steps S I) (sound : S → Type 0) (rule : List I → Bool) (s : S) : Type 0 where
  pub is_sound : sound s
  pub candidate : rule (t.candidate s) ≡ true
  pub home : rule (t.home s) ≡ true

abbrev pub sifter_sound : {S I F : Type 0} → Steps S I → (F → List I → Bool) → (S → Type 0) → Sifter S F → Type 0
sifter_sound t rule sound s = Accepted t sound (rule s.fun) s.source
