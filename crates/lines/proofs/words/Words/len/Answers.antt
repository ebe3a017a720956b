use Rattle.std.proofs.Common.{rules}
use Rattle.std.proofs.lemmas.Fn.{fold_over, slice_gives, fronts}
use Rattle.lines.proofs.Spaced.{length_written, Counted, count_more}
use Rattle.lines.proofs.words.Words.len.Goals as goal

pub returns : goal.returns
returns c =
    let word = c.self.inside.word.now in
    let counted : Counted word c.iter.result.rest.now c.fold.result =
    fold_over fronts (λ n. n.now) _ (Counted word) _
    (λ ns a n b f' j k. (count_more word ns _ a b j (search rules), search rules))
    c.iter.result _ _ _ (slice_gives _) (search (rules, length_written)) c.fold.ensures.ran in
    search rules
