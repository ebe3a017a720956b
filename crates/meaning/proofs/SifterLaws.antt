-- The laws that Filter and FilterMap share.
--   sifter_total   a sifter is total where its source is
--   sifter_keeps   it keeps its meaning, and its rule accepts what it shows, where its source keeps its own meaning
--   sifter_roots   its growth keeps what every growth should, for any steps over it of which a fresh sifter is rooted

use Rattle.std.proofs.Common.{◌≡◌, ℕ, Bool, List, refl, ◌∙◌}
use Rattle.meaning.specs.Trees.{Steps, Total, Keeps}
use Rattle.meaning.specs.Growths.{Growth, Rooted, Roots}
use Rattle.meaning.specs.Sifters.{Sifter, sifter_steps, sifter_wrap, sifter_growth, sifter_short, Accepted, sifter_sound}
use Rattle.meaning.proofs.Wrapping.{Wraps, under_grounds, wrap_roots}
use Rattle.meaning.proofs.Settling.{step_falls, step_grown, settled_simplify, settled_complicate}
use Rattle.meaning.proofs.Trying.{tried_grounds}

pub sifter_total : {S I F : Type 0} {t : Steps S I} (rule : F → List I → Bool) → Total t → Total (sifter_steps t rule)
sifter_total {t} rule total = record {
  ends = λ s. let step = t.complicate s.source in step_falls t (rule s.fun) total s.source step.tree step.answer (total.ends s.source);
  simplify_grown = λ s. let step = t.simplify s.source in step_grown t (rule s.fun) total step.tree step.answer ∙ total.simplify_grown s.source;
  complicate_grown = λ s. let step = t.complicate s.source in step_grown t (rule s.fun) total step.tree step.answer ∙ total.complicate_grown s.source;
  blank = λ s e. let blank = total.blank s.source e in record {
    shows_none = blank.shows_none;
    home_none = blank.home_none;
    no_back = blank.no_back;
    no_longest = blank.no_longest;
    no_simplify = blank.no_simplify;
    no_complicate = blank.no_complicate;
  };
  blanks = λ s. total.blanks s.source;
}

pub sifter_keeps : {S I F : Type 0} {t : Steps S I} {sound : S → Type 0} (rule : F → List I → Bool) → Keeps t sound → Keeps (sifter_steps t rule) (sifter_sound t rule sound)
sifter_keeps {t} {sound} rule keeps = record {
  fits = λ s accepted. keeps.fits s.source accepted.is_sound;
  simplify = λ s accepted. let step = t.simplify s.source in settled_simplify t (rule s.fun) sound keeps s.source step.tree step.answer accepted (keeps.simplify s.source accepted.is_sound);
  complicate = λ s accepted. let step = t.complicate s.source in settled_complicate t (rule s.fun) sound keeps s.source step.tree step.answer accepted (keeps.complicate s.source accepted.is_sound);
}

-- for any steps u over a sifter that is grown and made blank with its source
module _ {S I F J Q : Type 0} {t : Steps S I} (u : Steps (Sifter S F) J) (grown : (s : Sifter S F) → u.grown s ≡ t.grown s.source) (blank : (s : Sifter S F) → (u.blank s).source ≡ t.blank s.source) (fun : Q → F) where
  sifter_wraps : Wraps (sifter_wrap fun) t u
  sifter_wraps = record { same = λ s. refl; in_replaced = λ s x. refl; in_fresh = λ q x. refl; in_blank = blank; grown = grown }

  pub sifter_roots : {P : Type 0} {sound : S → Type 0} {short : P → S → Bool} {g : Growth P S} {stated : P → ℕ} (rule : F → List I → Bool) (under : Q → P) (stated-u : Q → ℕ) → Total t → Roots t sound short g stated →
      ((q : Q) (x : S) → Rooted t (Accepted t sound (rule (fun q))) x → t.longest x ≡ stated (under q) →
      Rooted u (sifter_sound t rule sound) (record { source = x; fun = fun q }) × (u.longest (record { source = x; fun = fun q }) ≡ stated-u q)) →
      Roots u (sifter_sound t rule sound) (sifter_short under short) (sifter_growth t rule under fun g) stated-u
  sifter_roots {sound} rule under stated-u total roots fresh = wrap_roots sifter_wraps (sifter_sound t rule sound) stated-u (tried_grounds (λ q. rule (fun q)) total (under_grounds under roots)) fresh
