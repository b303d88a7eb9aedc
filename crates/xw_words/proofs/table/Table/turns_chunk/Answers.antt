use Rattle.std.proofs.Common.{◌≡◌, ◌+◌, ◌-◌, ◌*◌, ap, sym, ◌∙◌, arith}
use Rattle.xw_bits.specs.Bits.{has_bit}
use Rattle.xw_words.specs.Columns.{is_active}
use Rattle.xw_words.specs.Dictionary.{entry_at, is_left}
use Rattle.xw_words.proofs.RowLemmas.{stays_active}
use Rattle.xw_words.proofs.table.Table.turns_chunk.Goals as goal

pub returns-then-left_chunk-active_chunk-clause-no : goal.returns-then-left_chunk-active_chunk-clause-no
returns-then-left_chunk-active_chunk-clause-no c is k le lt within =
    let entries = c.args.self.now.entries in
    let bit = k - 64 * c.args.chunk in
    let here : 64 * c.args.chunk + bit ≡ k = omega (arith, le) in
    let left : has_bit c.left_chunk.result bit ≡ is_left c.args.least (entry_at entries k) =
    c.left_chunk.ensures bit (omega (arith, le, lt)) (omega (arith, here, within)) ∙ ap (λ n. is_left c.args.least (entry_at entries n)) here in
    let active : has_bit c.active_chunk.result bit ≡ (entry_at entries k).active =
    c.active_chunk.ensures bit (omega (arith, le, lt)) ∙ ap (is_active entries) here in
    stays_active c.args.least (entry_at entries k) (sym active ∙ ap (λ word. has_bit word bit) (sym c.if-left_chunk-active_chunk.true) ∙ left)
