use Rattle.std.proofs.Common.{◌≡◌, length, sym, ap, ◌∙◌}
use Rattle.xw_grid.specs.Grid.{Grid}
use Rattle.xw_feas.specs.State.{State}
use Rattle.xw_feas.proofs.ShapeLemmas.{HasRows-made}
use Rattle.xw_plain.proofs.plain.Plain.new.Goals as goal

pub settled-requires-clause-rows : goal.settled-requires-clause-rows
settled-requires-clause-rows c =
    let position = c.in_ok-position.position in
    let same : position.grid ≡ c.args.grid = ap (λ (state : State). state.grid) c.in_ok-position.ensures.state in
    HasRows-made position.grid position.bank.words c.in_ok-words.words.items c.in_ok-letters.letters.items c.in_ok-words.ensures.ok (c.in_ok-letters.ensures.ok ∙ sym (ap (λ (grid : Grid). length grid.squares) same))
