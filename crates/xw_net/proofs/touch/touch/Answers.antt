use Rattle.std.proofs.Common.{◌≡◌, ℕ, false, List, length, refl, sym, subst}
use Rattle.std.specs.Prelude.{Option}
use Rattle.xw_grid.specs.declared.cell.Cell.{Cell}
use Rattle.xw_grid.specs.declared.lights.Light.{Light}
use Rattle.xw_feas.specs.Written.{Fields}
use Rattle.xw_feas.specs.Effect.{of_turned, fields_of, before_of, turned_of}
use Rattle.xw_net.specs.Begin.{IsNewLight, EditsCells}
use Rattle.xw_net.specs.Gone.{IsFreed, Raises}
use Rattle.xw_net.specs.Opened.{Touches}
use Rattle.xw_net.specs.Worklist.{Adds}
use Rattle.xw_net.proofs.Edits.ShapeNotes.{some_gives, none_gives}
use Rattle.xw_net.proofs.Revivals.Touching.{touches_all, touches_cells, touches_turned}
use Rattle.xw_net.proofs.touch.touch.Goals as goal

pub returns-in-Some : goal.returns-in-Some
returns-in-Some c =
    let a = c.args in
    let t = c.touch_turned in
    subst (λ (change : Fields). Touches a.grid.now a.board.now a.lights.now change a.letters.now a.queue.now a.chain.now a.letters.now t.new.queue t.new.chain) (sym (some_gives _ c.turned.result (c.in-Some.turned, c.in-Some.back) c.in-Some.is c.turned.ensures.some a.lights.now))
    (touches_turned a.grid.now a.board.now a.lights.now (of_turned a.lights.now c.in-Some.turned.now c.in-Some.back) refl a.letters.now a.queue.now t.new.queue a.chain.now t.new.chain c.requires.seeds refl t.ensures.queue t.ensures.chain)

pub returns-in-Some-before : goal.returns-in-Some-before
returns-in-Some-before c =
    let a = c.args in
    let n = c.mark_new in
    let r = c.raise_gone in
    let e = c.edit_cells in
    let was : List Light = before_of a.lights.now a.change.now in
    let same : c.in-Some-before.before.now ≡ was = sym (some_gives _ c.before-2.result c.in-Some-before.before c.in-Some-before.is c.before-2.ensures.some a.lights.now) in
    let none : (len : ℕ) → turned_of a.change.now len ≡ false = none_gives c.turned.result c.in_default.is c.turned.ensures.none in
    touches_all a.grid.now a.board.now a.lights.now (fields_of a.lights.now a.change.now) a.letters.now r.new.letters e.new.letters a.queue.now n.new.queue e.new.queue a.chain.now n.new.chain r.new.chain e.new.chain
    c.requires.seeds none
    (subst (λ (before : List Light). Adds (IsNewLight before a.lights.now) a.queue.now n.new.queue) same n.ensures.queue)
    (subst (λ (before : List Light). Adds (IsNewLight before a.lights.now) a.chain.now n.new.chain) same n.ensures.chain)
    (subst (λ (before : List Light). Raises a.board.now (IsFreed a.grid.now before a.lights.now (length before)) a.letters.now n.new.chain r.new.letters r.new.chain) same r.ensures)
    (subst (λ (cells : List (Cell × Option ℕ)). EditsCells a.grid.now a.board.now cells r.new.letters n.new.queue r.new.chain e.new.letters e.new.queue e.new.chain) c.cells-cells.ensures e.ensures)

pub returns : goal.returns
returns c =
    let a = c.args in
    let e = c.edit_cells-2 in
    touches_cells a.grid.now a.board.now a.lights.now (fields_of a.lights.now a.change.now) (sym (none_gives c.before-2.result c.in_default-before.is c.before-2.ensures.none a.lights.now)) a.letters.now e.new.letters a.queue.now e.new.queue a.chain.now e.new.chain c.requires.seeds (none_gives c.turned.result c.in_default.is c.turned.ensures.none)
    (subst (λ (cells : List (Cell × Option ℕ)). EditsCells a.grid.now a.board.now cells a.letters.now a.queue.now a.chain.now e.new.letters e.new.queue e.new.chain) c.cells-cells.ensures e.ensures)
