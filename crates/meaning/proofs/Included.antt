-- The included elements: what setting one of them does to the members.

use Rattle.std.proofs.Common.{◌≡◌, ℕ, zero, suc, ◌<◌, ◌≤◌, Bool, true, false, List, [], ◌∷◌, length, get_or, drop, set, replicate, sym, refl, ap, ◌∙◌, arith, set-set}
use Rattle.std.proofs.lemmas.Bool.{false≢true}
use Rattle.std.proofs.lemmas.List.{set-get_or}
use Rattle.meaning.specs.Vectors.{members, all_of}

pub members_less : (bs : List Bool) (i : ℕ) → get_or bs i false ≡ true → members bs ≡ suc (members (set bs i false))
members_less [] i member = absurd (false≢true member)
members_less (b ∷ bs) zero member = rw member (omega arith)
members_less (b ∷ bs) (suc i) member = let rest = members_less bs i member in omega arith

-- including a number again, or anew
pub members_put : (bs : List Bool) (i : ℕ) → (members bs ≤ members (set bs i true)) × (members (set bs i true) ≤ suc (members bs))
members_put [] i = (omega arith, omega arith)
members_put (true ∷ bs) zero = (omega arith, omega arith)
members_put (false ∷ bs) zero = (omega arith, omega arith)
members_put (b ∷ bs) (suc i) = let rest = members_put bs i in (omega arith, omega arith)

-- a new member is one more
pub members_more : (bs : List Bool) (i : ℕ) → i < length bs → get_or bs i false ≡ false → members (set bs i true) ≡ suc (members bs)
members_more [] i below none = absurd (omega arith)
members_more (b ∷ bs) zero below none = rw none (omega arith)
members_more (b ∷ bs) (suc i) below none = let rest = members_more bs i (omega arith) none in omega arith

pub no_members : (n : ℕ) → members (replicate n false) ≡ 0
no_members zero = refl
no_members (suc n) = let rest = no_members n in omega arith

-- a deleted member, put back
pub deleted_and_back : (bs : List Bool) (i : ℕ) → get_or bs i false ≡ true → set (set bs i false) i true ≡ bs
deleted_and_back bs i member = set-set bs i false true ∙ ap (set bs i) (sym member) ∙ set-get_or bs i false

-- the front of what is left from number i on
pub record Front (bs : List Bool) (i : ℕ) (b : Bool) (rest : List Bool) : Type 0 where
  pub below : i < length bs
  pub here : get_or bs i false ≡ b
  pub next : drop (suc i) bs ≡ rest

pub front : (bs : List Bool) (i : ℕ) (b : Bool) (rest : List Bool) → drop i bs ≡ b ∷ rest → Front bs i b rest
front [] zero b rest e = absurd (cc)
front [] (suc i) b rest e = absurd (cc)
front (x ∷ bs) zero b rest e = record { below = omega arith; here = cc; next = cc }
front (x ∷ bs) (suc i) b rest e = let f = front bs i b rest e in record { below = omega (arith, f.below); here = f.here; next = f.next }

-- all of n elements
pub all_length : (n : ℕ) → length (all_of n) ≡ n
all_length zero = refl
all_length (suc n) = ap suc (all_length n)

pub all_members : (n : ℕ) → members (all_of n) ≡ n
all_members zero = refl
all_members (suc n) = let rest = all_members n in omega arith

pub all_there : (n i : ℕ) → i < length (all_of n) → get_or (all_of n) i false ≡ true
all_there zero i below = absurd (omega arith)
all_there (suc n) zero below = refl
all_there (suc n) (suc i) below = all_there n i (omega arith)
