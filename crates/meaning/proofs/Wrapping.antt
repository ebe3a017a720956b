-- Growing inside a wrapper.
--   under_grounds  a growth keeps its grounds for the strategies that stand over its own
--   Wraps          a wrapper that holds what it should: it is grown and made blank with the tree inside, and where that is
--                  replaced nothing else of it changes
--   wrap_roots     growing inside a wrapper keeps what every growth should, where the growth inside has its grounds, and a
--                  fresh wrapper over a rooted tree is rooted

use Rattle.std.proofs.Common.{◌≡◌, ℕ, Bool, Ok, Err, refl, ap, ◌∙◌}
use Rattle.meaning.specs.Trees.{Steps}
use Rattle.meaning.specs.Growths.{Grown, Outcome, Growth, Rooted, Roots}
use Rattle.meaning.specs.GrowthLaws.{Grew, no_slots, Grounds, grounds_roots, roots_grounds}
use Rattle.meaning.specs.Wraps.{Wrap, wrapped, wrap_growth}

pub under_grounds : {S I P Q : Type 0} {t : Steps S I} {sound : S → Type 0} {short : P → S → Bool} {g : Growth P S} {stated : P → ℕ} (under : Q → P) →
    Roots t sound short g stated → Grounds t (λ (q : Q). sound) (λ q. short (under q)) (λ q. g (under q)) (λ q. stated (under q))
under_grounds under roots = let grounds = roots_grounds roots in record {
  told = λ q. grounds.told (under q);
  grew = λ q. grounds.grew (under q);
  lasting = λ q other. grounds.lasting (under q) (under other);
  blanked = λ q. grounds.blanked (under q);
  calm = λ q. grounds.calm (under q);
}

pub record Wraps {Q S W I J : Type 0} (wrap : Wrap Q S W) (t : Steps S I) (u : Steps W J) : Type 0 where
  pub same : (s : W) → wrap.replaced s (wrap.inside s) ≡ s
  pub in_replaced : (s : W) (x : S) → wrap.inside (wrap.replaced s x) ≡ x
  pub in_fresh : (q : Q) (x : S) → wrap.inside (wrap.fresh q x) ≡ x
  pub in_blank : (s : W) → wrap.inside (u.blank s) ≡ t.blank (wrap.inside s)
  pub grown : (s : W) → u.grown s ≡ t.grown (wrap.inside s)

module _ {Q S W I J : Type 0} {wrap : Wrap Q S W} {t : Steps S I} {u : Steps W J} (wraps : Wraps wrap t u) where
  module _ {X : Type 0} (q : Q) (s : W) (o : Outcome X S) where
    abbrev now : Grown → Outcome X W
    now = wrapped (wrap.fresh q) (wrap.replaced s) o

    now_inside : (answer : Grown) → wrap.inside (now answer).place ≡ o.place
    now_inside (Ok _) = wraps.in_fresh q o.place
    now_inside (Err fault) = wraps.in_replaced s o.place

    now_runner : (answer : Grown) → (now answer).runner ≡ o.runner
    now_runner (Ok _) = refl
    now_runner (Err fault) = refl

    now_grew : (sound : S → Type 0) (sound-w : W → Type 0) (stated stated-w : ℕ) →
        ((x : S) → Rooted t sound x → t.longest x ≡ stated → Rooted u sound-w (wrap.fresh q x) × (u.longest (wrap.fresh q x) ≡ stated-w)) →
        (answer : Grown) → Grew t sound stated o.place answer → Grew u sound-w stated-w (now answer).place (now answer).answer
    now_grew sound sound-w stated stated-w fresh (Ok _) (rooted, states) = fresh o.place rooted states
    now_grew sound sound-w stated stated-w fresh (Err fault) (not_slots, blank) = (not_slots, wraps.grown (wrap.replaced s o.place) ∙ ap t.grown (wraps.in_replaced s o.place) ∙ blank)

  pub wrap_roots : {sound : Q → S → Type 0} {short : Q → S → Bool} {g : Growth Q S} {stated : Q → ℕ} (sound-w : W → Type 0) (stated-w : Q → ℕ) → Grounds t sound short g stated →
      ((q : Q) (x : S) → Rooted t (sound q) x → t.longest x ≡ stated q → Rooted u sound-w (wrap.fresh q x) × (u.longest (wrap.fresh q x) ≡ stated-w q)) →
      Roots u sound-w (λ q s. short q (wrap.inside s)) (wrap_growth wrap g) stated-w
  wrap_roots {sound} {short} {g} {stated} sound-w stated-w grounds fresh = grounds_roots (record {
    told = λ q X w r s few. ap (λ (o : Outcome X S). now q s o o.answer) (grounds.told q X w r (wrap.inside s) few) ∙ ap (no_slots r) (wraps.same s);
    grew = λ q X w r s enough. let o = g q X w r (wrap.inside s) in now_grew q s o (sound q) sound-w (stated q) (stated-w q) (fresh q) o.answer (grounds.grew q X w r (wrap.inside s) enough);
    lasting = λ q other X w r s enough. let o = g q X w r (wrap.inside s) in ap (short other) (now_inside q s o o.answer) ∙ grounds.lasting q other X w r (wrap.inside s) enough;
    blanked = λ q s. ap (short q) (wraps.in_blank s) ∙ grounds.blanked q (wrap.inside s);
    calm = λ q X w r s enough. let o = g q X w r (wrap.inside s) in rw (now_runner q s o o.answer) (grounds.calm q X w r (wrap.inside s) enough);
  })
