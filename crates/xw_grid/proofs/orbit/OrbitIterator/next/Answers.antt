use Rattle.std.proofs.Common.{◌≡◌, ◌+◌, ◌∷◌, ap, sym, ◌∙◌, rules}
use Rattle.xw_grid.specs.Grid.{cell_in}
use Rattle.xw_grid.specs.Orbit.{cells_among}
use Rattle.xw_grid.proofs.OrbitCellLemmas.{left_first, left_none, left_end}
use Rattle.xw_grid.proofs.orbit.OrbitIterator.next.Goals as goal

pub returns-in-Some-clause-steps : goal.returns-in-Some-clause-steps
returns-in-Some-clause-steps c =
    let r = c.self.inside in
    sym c.self.view_is
    ∙ left_first r.width r.squares r.from r.end c.in-Some.square c.self.invariant.2 c.in-Some.ensures
    ∙ ap (λ cell. cell ∷ cells_among r.width r.squares (c.in-Some.square + 1) r.end) (sym c.cell_of.ensures)

pub returns-in-Some-clause-goes : goal.returns-in-Some-clause-goes
returns-in-Some-clause-goes c =
    let r = c.self.inside in
    let steps : c.args.self.now ≡ cell_in r.width c.in-Some.square ∷ cells_among r.width r.squares (c.in-Some.square + 1) r.end =
    sym c.self.view_is ∙ left_first r.width r.squares r.from r.end c.in-Some.square c.self.invariant.2 c.in-Some.ensures in
    rw steps (search rules)

pub returns-in-None-clause-steps : goal.returns-in-None-clause-steps
returns-in-None-clause-steps c =
    let r = c.self.inside in
    (sym c.self.view_is ∙ left_none r.width r.squares r.from r.end c.in-None.ensures, left_end r.width r.squares r.end)
