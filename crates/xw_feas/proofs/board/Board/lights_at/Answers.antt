use Rattle.std.proofs.Common.{sym, ◌∙◌, inl, inr}
use Rattle.xw_grid.specs.declared.cell.Direction.TheVariants.{Across, Down}
use Rattle.xw_feas.specs.Passes.{Passes}
use Rattle.xw_feas.proofs.CrossingLemmas.{each_some}
use Rattle.xw_feas.proofs.PassesLemmas.{passes_found, passes_only}
use Rattle.xw_feas.proofs.board.Board.lights_at.Goals as goal

pub returns-clause-across : goal.returns-clause-across
returns-clause-across c =
    each_some (Passes c.args.self.now c.args.cell) c.across_at.result (λ light is.
    passes_found c.self.inside.grid.now c.args.self.now c.self.view_is c.self.inside.lights.now c.self.invariant.0 c.args.cell c.cell_at-cell.result c.cell_at-cell.ensures.cell Across light (sym c.across_at.ensures ∙ is))

pub returns-clause-down : goal.returns-clause-down
returns-clause-down c =
    each_some (Passes c.args.self.now c.args.cell) c.down_at.result (λ light is.
    passes_found c.self.inside.grid.now c.args.self.now c.self.view_is c.self.inside.lights.now c.self.invariant.0 c.args.cell c.cell_at-cell.result c.cell_at-cell.ensures.cell Down light (sym c.down_at.ensures ∙ is))

pub returns-clause-only : goal.returns-clause-only
returns-clause-only c light passes =
    elim (passes_only c.self.inside.grid.now c.args.self.now c.self.view_is c.self.inside.lights.now c.self.invariant.0 c.args.cell c.cell_at-cell.result c.cell_at-cell.ensures.cell light passes) [
      | inl across ↦ inl (c.across_at.ensures ∙ across)
      | inr down ↦ inr (c.down_at.ensures ∙ down)
    ]
