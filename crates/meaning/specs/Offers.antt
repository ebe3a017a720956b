-- What a runner gives that a tree holds, to grow other trees by what a chooser gives for a list.
--   Request      what is asked of it: to grow for a list into a place, or to use up one regeneration
--   Offer        what it offers: the tree that growing for a list into a place gives, if that is accepted; whether a regeneration
--                is left
--   Offers       what it will offer after any list of requests. So a tree that holds a runner has states that speak of no
--                source of words
--   asked        what it offers after one request more
--   if_accepted  the tree that a growth leaves, if it was accepted
--   offer_of     what a runner offers now, by a chooser and the growth of what is chosen
--   after_request  the runner after a request
--   offers_of    what a runner will offer

use Rattle.std.specs.Prelude.{Bool, List, [], ◌∷◌, Some, None, Ok, Err, Option, nat_lt}
use Rattle.draws.specs.Runners.{RunnerState, regenerated}
use Rattle.meaning.specs.Growths.{Grown, Grows}

pub data Request (J S : Type 0) : Type 0 where
  regrow : List J → S → Request J S
  spend : Request J S

pub record Offer (J S : Type 0) : Type 0 where
  pub grows : List J → S → Option S
  pub regenerates : Bool

abbrev pub Offers : Type 0 → Type 0 → Type 0
Offers J S = List (Request J S) → Offer J S

abbrev pub asked : {J S : Type 0} → Offers J S → Request J S → Offers J S
asked offers request later = offers (request ∷ later)

abbrev pub if_accepted : {S : Type 0} → Grown → S → Option S
if_accepted (Ok _) s = Some s
if_accepted (Err fault) s = None

module _ {X J P S : Type 0} (choose : List J → P) (grow : P → Grows X S) where
  abbrev pub offer_of : RunnerState X → Offer J S
  offer_of r = record { grows = λ l s. if_accepted (grow (choose l) r s).answer (grow (choose l) r s).place; regenerates = nat_lt 0 r.regenerations }

  abbrev pub after_request : RunnerState X → Request J S → RunnerState X
  after_request r (regrow l s) = (grow (choose l) r s).runner
  after_request r spend = regenerated r

  abbrev pub offers_of : RunnerState X → Offers J S
  offers_of r [] = offer_of r
  offers_of r (request ∷ later) = offers_of (after_request r request) later
