-- What a source of words means.
--   Given            a word, and the source after it
--   Parted           what a split gives (child) and what it leaves (rest)
--   Words            the meaning of a source whose states are S: its next word, or none where it is spent; its split
--   word, after      the next word, if any; the source after one call, which a spent source leaves as it is
--   TapeState        a list of words, and how many of them were given
--   tape_words       a tape gives its words in order; a split copies it at its place
--   xorshift         one turn of the generator, in 64 bits
--   seeded           the state for a seed: 0 counts as 1
--   generator_words  each word is the state after a turn; a split seeds a child with the next word

use Rattle.std.specs.Prelude.{ℕ, ◌+◌, ◌*◌, ◌/◌, ◌%◌, ◌^◌, cond, List, length, Some, None, Option, ◌==◌, bit_xor, nat_lt, slice_index}

pub record Given (S : Type 0) : Type 0 where
  pub value : ℕ
  pub left : S

pub record Parted (S : Type 0) : Type 0 where
  pub child : S
  pub rest : S

pub record Words (S : Type 0) : Type 0 where
  pub next : S → Option (Given S)
  pub split : S → Parted S

abbrev pub word_in : {S : Type 0} → Option (Given S) → Option ℕ
word_in None = None
word_in (Some g) = Some g.value

abbrev pub left_in : {S : Type 0} → S → Option (Given S) → S
left_in s None = s
left_in s (Some g) = g.left

abbrev pub word : {S : Type 0} → Words S → S → Option ℕ
word w s = word_in (w.next s)

abbrev pub after : {S : Type 0} → Words S → S → S
after w s = left_in s (w.next s)

pub record TapeState : Type 0 where
  pub words : List ℕ
  pub place : ℕ

abbrev pub tape_next : TapeState → Option (Given TapeState)
tape_next t = cond (nat_lt t.place (length t.words))
    (Some (record { value = slice_index t.words t.place; left = record { words = t.words; place = t.place + 1 } }))
    None

abbrev pub tape_words : Words TapeState
tape_words = record { next = tape_next; split = λ t. record { child = t; rest = t } }

-- x exclusive or x shifted by some bits, to the left in 64 bits or to the right
abbrev pub xor_left : ℕ → ℕ → ℕ
xor_left bits x = bit_xor x ((x * 2 ^ bits) % 2 ^ 64)

abbrev pub xor_right : ℕ → ℕ → ℕ
xor_right bits x = bit_xor x (x / 2 ^ bits)

abbrev pub xorshift : ℕ → ℕ
xorshift x = xor_left 17 (xor_right 7 (xor_left 13 x))

abbrev pub seeded : ℕ → ℕ
seeded n = cond (n == 0) 1 n

abbrev pub generator_words : Words ℕ
generator_words = record {
  next = λ x. Some (record { value = xorshift x; left = xorshift x });
  split = λ x. record { child = seeded (xorshift x); rest = xorshift x };
}
