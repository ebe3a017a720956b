-- The laws of a set's steps.
--   simplified   what holds where simplify clears a member, runs past the end or stays, holds of what it gives
--   set_total    at every state
--   set_keeps    a sound set keeps its meaning

use Rattle.std.proofs.Common.{◌≡◌, ℕ, zero, suc, ◌<◌, ◌≤◌, Bool, true, false, ltb, List, [], ◌∷◌, length, get_or, Some, None, Option, refl, ap, inl, inr, le_refl, arith, length-set}
use Rattle.std.proofs.lemmas.Bool.{cond_both, ltb-true}
use Rattle.meaning.specs.Trees.{Stepped, Steps, stays, Ends, SimplifyKept, ComplicateKept, Total, Keeps}
use Rattle.meaning.specs.PlaceLaws.{always, placed_total, placed_keeps}
use Rattle.meaning.specs.Sets.{SetTree, named, with_noted, first_member, cleared, ran_past, clears_at, set_simplify, set_complicate, bare_set, set_steps}
use Rattle.meaning.specs.SetLaws.{SetSound, set_sound}
use Rattle.meaning.specs.Vectors.{members, joined}
use Rattle.meaning.proofs.FirstMember.{first_is_member}
use Rattle.meaning.proofs.Included.{members_less, members_put, deleted_and_back}

-- a set shows an item for each of its members
pub named_length : {I : Type 0} (item : ℕ → I) (i : ℕ) (bs : List Bool) → length (joined (λ i. item i ∷ []) i bs) ≡ members bs
named_length item i [] = refl
named_length item i (true ∷ bs) = let rest = named_length item (suc i) bs in omega arith
named_length item i (false ∷ bs) = let rest = named_length item (suc i) bs in omega arith

put_back_no_less : (bs : List Bool) (last : Option ℕ) → members bs ≤ members (with_noted bs last)
put_back_no_less bs None = le_refl (members bs)
put_back_no_less bs (Some i) = (members_put bs i).0

module _ {I : Type 0} where
  pub simplified : (Holds : Stepped (SetTree I) → Type 0) (s : SetTree I) → ((i : ℕ) → s.min_count < members s.included → get_or s.included i false ≡ true → Holds (cleared s i)) → ((i : ℕ) → Holds (ran_past s i)) → Holds (stays s) → Holds (set_simplify s)
  simplified Holds s clears passes rests =
      let i = first_member s.included s.shrink in
      cond_both (ltb s.min_count (members s.included)) (clears_at s i) (stays s) Holds
      (λ more. cond_both (ltb i (length s.included)) (cleared s i) (ran_past s i) Holds
      (λ below. clears i (ltb-true _ _ more) (first_is_member s.included s.shrink (ltb-true _ _ below)))
      (λ past. passes i))
      (λ fewest. rests)

  abbrev bare : Steps (SetTree I) I
  bare = always bare_set

  -- a set with another note
  abbrev noting : SetTree I → Option ℕ → SetTree I
  noting s last = record { included = s.included; item = s.item; min_count = s.min_count; shrink = s.shrink; prev_shrink = last; longest = s.longest }

  set_ends : (s : SetTree I) (last : Option ℕ) → Ends bare (noting s last)
  set_ends s None = le_refl 0
  set_ends s (Some i) = omega arith

  fits : (s : SetTree I) → SetSound s → members s.included ≤ s.longest
  fits s is_sound = let no_less = put_back_no_less s.included s.prev_shrink in omega arith

  -- simplify, where a member was cleared
  cleared_kept : (s : SetTree I) (i : ℕ) → SetSound s → s.min_count < members s.included → get_or s.included i false ≡ true → SimplifyKept bare SetSound s (cleared s i)
  cleared_kept s i is_sound more member =
      let less = members_less s.included i member in
      let back = deleted_and_back s.included i member in (
        record {
          enough = omega arith;
          distinct = rw (length-set s.included i false) is_sound.distinct;
          room = rw back (fits s is_sound);
        },
        ap (named s.item) back,
        refl,
      )

  -- simplify, where no member was left
  past_kept : (s : SetTree I) (i : ℕ) → SetSound s → SimplifyKept bare SetSound s (ran_past s i)
  past_kept s i is_sound = (record { enough = is_sound.enough; distinct = is_sound.distinct; room = fits s is_sound }, (refl, inr refl), refl)

  simplify_kept : (s : SetTree I) → SetSound s → SimplifyKept bare SetSound s (set_simplify s)
  simplify_kept s is_sound = simplified (SimplifyKept bare SetSound s) s (λ i more member. cleared_kept s i is_sound more member) (λ i. past_kept s i is_sound) (is_sound, (refl, inl refl), refl)

  complicate_kept : (s : SetTree I) (last : Option ℕ) → SetSound (noting s last) → ComplicateKept bare SetSound (noting s last) (set_complicate (noting s last) last)
  complicate_kept s None is_sound = (is_sound, (refl, refl, refl, le_refl 0), refl)
  complicate_kept s (Some i) is_sound =
      let more = members_put s.included i in
      (record { enough = omega arith; distinct = rw (length-set s.included i true) is_sound.distinct; room = is_sound.room }, (refl, omega arith), refl)

  pub set_total : Total (set_steps {I = I})
  set_total = placed_total bare_set (λ s. set_ends s s.prev_shrink)

  pub set_keeps : Keeps (set_steps {I = I}) set_sound
  set_keeps = placed_keeps bare_set set_sound (record {
    fits = λ s is_sound. let length-is = named_length s.item 0 s.included in let few = fits s is_sound in omega arith;
    simplify = simplify_kept;
    complicate = λ s. complicate_kept s s.prev_shrink;
  })
