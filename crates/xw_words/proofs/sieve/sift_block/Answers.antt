use Rattle.std.proofs.Common.{◌≡◌, ◌+◌, ◌*◌, ◌&&◌, not, false, get_or, sym, ap, ◌∙◌}
use Rattle.xw_words.specs.Columns.{has_listed, stays}
use Rattle.xw_words.proofs.Sieving.{in_block}
use Rattle.xw_words.proofs.sieve.sift_block.Goals as goal

pub returns-then-keep-clause-inside : goal.returns-then-keep-clause-inside
returns-then-keep-clause-inside c i low high entries position are =
    let old = c.args.row.now.bits in
    in_block (λ i. get_or c.keep_block.new.self.bits i false ≡ (get_or c.args.row.now.bits i false && stays c.args.keep (has_listed entries position c.args.list.now i))) c.args.at (λ chunk k in_words lt.
    let i = 64 * (c.args.at + chunk) + k in
    c.keep_block.ensures.inside chunk k in_words lt
    ∙ ap (λ b. get_or old i false && b) (c.block_with-found.ensures chunk k in_words lt entries position are ∙ ap (λ keep. stays keep (has_listed entries position c.args.list.now i)) (sym c.if-keep.true))) i low high

pub returns-else-keep-clause-inside : goal.returns-else-keep-clause-inside
returns-else-keep-clause-inside c i low high entries position are =
    let old = c.args.row.now.bits in
    in_block (λ i. get_or c.strike_block.new.self.bits i false ≡ (get_or c.args.row.now.bits i false && stays c.args.keep (has_listed entries position c.args.list.now i))) c.args.at (λ chunk k in_words lt.
    let i = 64 * (c.args.at + chunk) + k in
    c.strike_block.ensures.inside chunk k in_words lt
    ∙ ap (λ b. get_or old i false && b) (ap not (c.block_with-found.ensures chunk k in_words lt entries position are) ∙ ap (λ keep. stays keep (has_listed entries position c.args.list.now i)) (sym c.if-keep.false))) i low high
