use Rattle.std.proofs.Common.{◌≡◌, ◌<◌, ◌≤◌, List, [], length, get_or, sym, ◌∙◌, ap, subst, arith}
use Rattle.std.proofs.lemmas.Result.{err_from_is_err_and}
use Rattle.xw_grid.specs.declared.lights.Light.{Light}
use Rattle.xw_grid.specs.Light.{lights_of, no_light}
use Rattle.xw_feas.specs.Board.{Board, board_of, light_at}
use Rattle.xw_feas.proofs.BoardLemmas.{length-lights}
use Rattle.xw_answers.specs.Text.{letters_at, light_line, light_words, pattern}
use Rattle.xw_answers.proofs.LightTexts.{light_short, few_cells, pattern_on_board}
use Rattle.xw_answers.proofs.Gathering.{gathers-pushed, gathers-stops}
use Rattle.xw_answers.proofs.lights.put_light.Goals as goal

pub light-cells-requires : goal.light-cells-requires
light-cells-requires g c =
    let within : c.args.index < length (lights_of c.args.grid.now) = subst (λ (lights : List Light). c.args.index < length lights) c.requires.lights c.requires.index in
    omega (arith, within, length-lights c.args.grid.now, ap (λ (board : Board). length board.lights) c.new-board.ensures)

pub overflow_add-len : goal.overflow_add-len
overflow_add-len g c =
    let within : c.args.index < length (lights_of c.args.grid.now) = subst (λ (lights : List Light). c.args.index < length lights) c.requires.lights c.requires.index in
    let cells = c.light-cells.ensures.cells ∙ ap (λ (board : Board). light_at board c.args.index) c.new-board.ensures in
    omega (arith, c.len.ensures, ap length cells, few_cells c.args.grid.now c.args.index c.well_formed-2.ensures within)

pub make_room-requires : goal.make_room-requires
make_room-requires g c =
    let within : c.args.index < length (lights_of c.args.grid.now) = subst (λ (lights : List Light). c.args.index < length lights) c.requires.lights c.requires.index in
    let cells = c.light-cells.ensures.cells ∙ ap (λ (board : Board). light_at board c.args.index) c.new-board.ensures in
    omega (arith, c.len.ensures, ap length cells, few_cells c.args.grid.now c.args.index c.well_formed-2.ensures within)

pub push_light-requires-clause-inside : goal.push_light-requires-clause-inside
push_light-requires-clause-inside g c =
    let Inside : List Light → Type 0 = λ lights. c.args.index < length lights → ((get_or lights c.args.index no_light).start.row ≤ 255) × ((get_or lights c.args.index no_light).start.col ≤ 255) in
    let inside : Inside c.args.lights.now = subst Inside (sym c.requires.lights) (λ within. let all = light_short c.args.grid.now c.args.index c.well_formed-2.ensures within in (all.1, all.2)) in
    subst (λ (light : Light). (light.start.row ≤ 255) × (light.start.col ≤ 255)) (sym c.at.ensures) (inside c.requires.index)

pub returns-in_err-make_room : goal.returns-in_err-make_room
returns-in_err-make_room g c =
    let e = err_from_is_err_and c.from_residual.result c.from_residual.ensures.1 in
    let light = get_or c.args.lights.now c.args.index no_light in
    rw e.1 (gathers-stops g.W.Sink.transcript g.W.Sink.failures c.args.sink.now c.make_room.new.sink c.args.line.now [] (light_line c.args.grid.now light) c.in_err-make_room.ensures.gathers)

pub returns : goal.returns
returns g c =
    let grid = c.args.grid.now in
    let light = get_or c.args.lights.now c.args.index no_light in
    let within : c.args.index < length (lights_of grid) = subst (λ (lights : List Light). c.args.index < length lights) c.requires.lights c.requires.index in
    let cells = c.light-cells.ensures.cells ∙ ap (λ (board : Board). light_at board c.args.index) c.new-board.ensures in
    let letters : letters_at c.new-board.result c.light-cells.result ≡ pattern grid light =
    ap (λ (board : Board). letters_at board c.light-cells.result) c.new-board.ensures ∙ ap (letters_at (board_of grid)) cells
    ∙ pattern_on_board grid c.args.index within ∙ sym (ap (λ (lights : List Light). pattern grid (get_or lights c.args.index no_light)) c.requires.lights) in
    let same : light_words c.at.result (letters_at c.new-board.result c.light-cells.result) ≡ light_line grid light =
    ap (λ (l : Light). light_words l (letters_at c.new-board.result c.light-cells.result)) c.at.ensures ∙ ap (light_words light) letters in
    gathers-pushed g.W.Sink.transcript g.W.Sink.failures (Unit {0}) c.args.sink.now c.make_room.new.sink c.args.line.now c.make_room.new.self c.push_light.new.line (light_line grid light)
    c.in_ok-make_room.ensures.gathers (rw same at c.push_light.ensures)
