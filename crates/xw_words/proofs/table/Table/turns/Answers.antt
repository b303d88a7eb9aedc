use Rattle.std.proofs.Common.{sym, ap, ◌∙◌, arith}
use Rattle.std.proofs.lemmas.List.{get_or_default}
use Rattle.std.proofs.lemmas.List.Folds.{list_any_none}
use Rattle.xw_words.specs.Dictionary.{no_entry, is_turned}
use Rattle.xw_words.proofs.table.Table.turns.Goals as goal

pub returns : goal.returns
returns c =
    let entries = c.args.self.now.entries in
    sym (list_any_none (is_turned c.args.least) entries (λ k d lt.
    ap (is_turned c.args.least) (get_or_default entries k d no_entry lt)
    ∙ c.loop-chunk.invariant k (omega (arith, lt, c.len.ensures.value, c.div_ceil-chunk-end.ensures, c.loop-chunk-test.false)) lt))
