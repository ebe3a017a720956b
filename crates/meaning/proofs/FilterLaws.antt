-- The laws of Filter, from those of its source.
--   filter_total   at every state
--   filter_keeps   where its rule accepts its candidate and its home, which its steps keep so
--   filter_roots   growth gives a tree whose candidate the strategy's rule accepts

use Rattle.std.proofs.Common.{ℕ, Bool, List, refl}
use Rattle.meaning.specs.Trees.{Steps, Total, Keeps}
use Rattle.meaning.specs.Growths.{Growth, Roots}
use Rattle.meaning.specs.Filters.{filter_steps, filter_growth, filter_short, filter_sound}
use Rattle.meaning.proofs.SifterLaws.{sifter_total, sifter_keeps, sifter_roots}

pub filter_total : {S I : Type 0} {t : Steps S I} → Total t → Total (filter_steps t)
filter_total total = sifter_total (λ rule. rule) total

pub filter_keeps : {S I : Type 0} {t : Steps S I} {sound : S → Type 0} → Keeps t sound → Keeps (filter_steps t) (filter_sound t sound)
filter_keeps keeps = sifter_keeps (λ rule. rule) keeps

pub filter_roots : {S I P Q : Type 0} {t : Steps S I} {sound : S → Type 0} {short : P → S → Bool} {g : Growth P S} {stated : P → ℕ} (under : Q → P) (rule : Q → List I → Bool) → Total t →
    Roots t sound short g stated → Roots (filter_steps t) (filter_sound t sound) (filter_short under short) (filter_growth t under rule g) (λ q. stated (under q))
filter_roots {t} {stated} under rule total roots = sifter_roots (filter_steps t) (λ s. refl) (λ s. refl) rule (λ rule. rule) under (λ q. stated (under q)) total roots
    (λ q x rooted states. (record { is_sound = rooted.is_sound; is_grown = rooted.is_grown; at_home = rooted.at_home; no_back = rooted.no_back }, states))
