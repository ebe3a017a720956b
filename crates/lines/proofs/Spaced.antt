-- The parts of a line, a word, numbers and a line feed: how long they are, and how they are put into a buffer, one behind
-- the other.
use Rattle.std.proofs.Common.{◌≡◌, ℕ, ◌+◌, ◌-◌, ◌^◌, ◌<◌, ◌≤◌, min, List, [], ◌∷◌, ◌++◌, length, get_or, drop, codes, decimal, sym, ap, ◌∙◌, arith, append_assoc, length-append}
use borrow.Rule.Slice.PartMut.{put_mid}
use Rattle.std.specs.List.{flat_map}
use Rattle.std.proofs.lemmas.List.{at_drop_more, flat_map_more}
use Rattle.lines.specs.Lines.{spaced, written}
use Rattle.buffers.specs.Over.{over, over_from}
use Rattle.lines.proofs.Parts.{part, over_part}
use Rattle.buffers.proofs.Overs.{over_append, over_from_append}

pub length_written : (word numbers : List ℕ)
    → length (written word numbers) ≡ length word + length (flat_map spaced numbers) + 1
length_written word numbers = simp length-append (omega arith)

-- a is how many bytes the word, these numbers and the line feed take, as far as that can be counted
abbrev pub Counted : List ℕ → List ℕ → ℕ → Type 0
Counted word numbers a = a ≡ min (length (written word numbers)) (2 ^ 64 - 1)

pub count_more : (word numbers : List ℕ) (n a b : ℕ) → Counted word numbers a
    → b ≡ min (a + (1 + length (decimal n))) (2 ^ 64 - 1) → Counted word (numbers ++ n ∷ []) b
count_more word numbers n a b before now =
    let more = ap length (sym (flat_map_more spaced [] numbers n)) in
    let long = length_written word numbers in
    let longer = length_written word (numbers ++ n ∷ []) in
    let new = simp length-append at more in
    omega arith

-- `whole` is being put into `out`: its part `rest` is still to come, from `at` on, and the buffer holds `now`
pub record Putting (whole out rest : List ℕ) (at : ℕ) (now : List ℕ) : Type 0 where
  pub ends : at + length rest ≡ length whole
  pub completes : over_from at rest now ≡ over whole out

-- the numbers from the index i on, and the line feed
abbrev pub numbers_from : List ℕ → ℕ → List ℕ
numbers_from numbers i = flat_map spaced (drop i numbers) ++ codes "\n"

pub numbers_more : (numbers : List ℕ) (i : ℕ) → i < length numbers
    → numbers_from numbers i ≡ codes " " ++ (decimal (get_or numbers i 0) ++ numbers_from numbers (i + 1))
numbers_more numbers i h =
    at_drop_more (λ ns. flat_map spaced ns ++ codes "\n") numbers i 0 h
    ∙ append_assoc (codes " " ++ decimal (get_or numbers i 0)) (flat_map spaced (drop (i + 1) numbers)) (codes "\n")

-- the word is put
pub put_word : (word numbers out : List ℕ)
    → Putting (written word numbers) out (numbers_from numbers 0) (length word) (over word out)
put_word word numbers out = record {
  ends = sym (length-append word (numbers_from numbers 0));
  completes = over_append word (numbers_from numbers 0) out;
}

-- the next part is put: `at += put(xs, &mut now[at..])`
pub put_next : (whole out xs ys : List ℕ) (at : ℕ) (now : List ℕ) (n : ℕ) (after : List ℕ) → at ≤ length now
    → n ≡ length xs → after ≡ over xs (part now at) → Putting whole out (xs ++ ys) at now
    → Putting whole out ys (at + n) (put_mid at (length now - at) now after)
put_next whole out xs ys at now n after inside e f p = record {
  ends = let ends = p.ends in omega (arith, length-append xs ys);
  completes = rw (f, over_part at now xs inside, e) (over_from_append at xs ys now ∙ p.completes);
}
