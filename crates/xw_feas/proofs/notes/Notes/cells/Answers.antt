use Rattle.std.proofs.Common.{length, min, take, sym, ap, ◌∙◌}
use Rattle.xw_feas.specs.Effect.{cells_by}
use Rattle.xw_feas.proofs.Noting.{take_at_most}
use Rattle.xw_feas.proofs.notes.Notes.cells.Goals as goal

pub returns-in-List : goal.returns-in-List
returns-in-List c =
    let notes = c.args.self.now in
    let items = notes.noted.items in
    ap (take c.min.result) c.deref.ensures.value
    ∙ ap (λ n. take n items) (c.min.ensures ∙ ap (min c.in-List.count) (c.len.ensures ∙ notes.noted.ok.0))
    ∙ take_at_most items c.in-List.count
    ∙ ap (cells_by notes) (sym c.in-List.is)
