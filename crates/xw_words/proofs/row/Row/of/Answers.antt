use Rattle.std.proofs.Common.{ℕ, ◌*◌, ◌∙◌, ap, subst, arith}
use Rattle.xw_words.specs.Columns.{AreFilled}
use Rattle.xw_words.proofs.KeptRowLemmas.{columns_filled}
use Rattle.xw_words.proofs.row.Row.of.Goals as goal

pub invariant_of-result : goal.invariant_of-result
invariant_of-result c =
    let words = c.len.result in
    let letters = c.letters.result.now in
    let columns = c.in_ok-columns.columns.items in
    let len = c.word_len.ensures.value in
    let P : ℕ → Type 0 = λ n. AreFilled n words words letters columns in
    columns_filled c.args.table c.trimmed.result letters words columns c.len.ensures.value c.letters.ensures.words
    (omega (arith, c.in_ok-columns.ensures.few, len)) (λ some. c.in_ok-columns.ensures.all some ∙ ap (λ n. 26 * n) len) (subst P len c.in_ok-columns.ensures.filled)
    c.trimmed.ensures.word_len c.trimmed.ensures.entries c.trimmed.ensures.reserved
