use Rattle.std.proofs.Common.{◌≡◌, ◌<◌, length, ap, sym, ◌∙◌, get_or, set, arith}
use Rattle.std.proofs.lemmas.List.Edits.{map_over_more}
use Rattle.xw_words.specs.Bank.{limited_row}
use Rattle.xw_words.proofs.bank.limit_rows.Goals as goal

pub loop-index-preserved : goal.loop-index-preserved
loop-index-preserved c =
    let rows = c.args.rows.now in
    let row = c.index-rows-index.result in
    let within : c.loop-index.index < length rows = omega arith in
    let limited : c.limit.new.self ≡ limited_row c.args.least (get_or c.loop-index.rows c.loop-index.index row) = λ i. record { word_len = c.limit.ensures.word_len i; entries = c.limit.ensures.entries i; room = c.limit.ensures.room i } in
    ap (set c.loop-index.rows c.loop-index.index) (limited ∙ ap (limited_row c.args.least) (sym c.index-rows-index.is))
    ∙ map_over_more (limited_row c.args.least) rows c.loop-index.rows c.loop-index.index row within c.loop-index.invariant c.index-rows-index.is
