use Rattle.std.proofs.Common.{◌≡◌, ◌+◌, ◌*◌, length, get_or, sym, ap, ◌∙◌, arith}
use Rattle.xw_feas.proofs.BoardLemmas.{length-indices, get_or-indices}
use Rattle.xw_feas.proofs.board.Cells.stride.Goals as goal

pub returns : goal.returns
returns c k below =
    let first = c.self.inside.first in
    let stride = c.self.inside.stride in
    let long : length c.args.self.now ≡ c.self.inside.len = ap length (sym c.self.view_is) ∙ length-indices first stride c.self.inside.len in
    let here : get_or c.args.self.now k 0 ≡ c.self.inside.first + k * c.self.inside.stride =
    ap (λ cells. get_or cells k 0) (sym c.self.view_is) ∙ get_or-indices first stride c.self.inside.len k (omega (arith, below, long)) in
    let next : get_or c.args.self.now (k + 1) 0 ≡ c.self.inside.first + (k + 1) * c.self.inside.stride =
    ap (λ cells. get_or cells (k + 1) 0) (sym c.self.view_is) ∙ get_or-indices first stride c.self.inside.len (k + 1) (omega (arith, below, long)) in
    let more : (k + 1) * c.self.inside.stride ≡ k * c.self.inside.stride + c.self.inside.stride = omega arith in
    next ∙ omega (arith, here, more)
