use Rattle.std.proofs.Common.{◌≡◌, ◌<◌, length, get_or, sym, ap, ◌∙◌, arith}
use Rattle.std.proofs.lemmas.List.{get_or_read}
use Rattle.xw_letters.specs.LetterSet.{letters_in}
use Rattle.xw_grid.specs.Light.{lights_of}
use Rattle.xw_feas.specs.Board.{board_of}
use Rattle.xw_feas.proofs.AnswersLemmas.{sets_at}
use Rattle.xw_live.specs.Live.{state_of}
use Rattle.xw_net.specs.Net.{flags_of, sets_of}
use Rattle.xw_live.proofs.Keeping.{kept_cells}
use Rattle.xw_live.proofs.live.LiveFeasible.letters_at.Goals as goal

pub bounds-letters-index : goal.bounds-letters-index
bounds-letters-index c =
    let live = c.args.self.now in
    omega (arith, ap length c.letters.ensures, c.requires, kept_cells (state_of live) live.net live.kept)

pub returns : goal.returns
returns c =
    let live = c.args.self.now in
    let sets = sets_of live.net in
    let below : c.args.index < length sets = omega (arith, c.requires, kept_cells (state_of live) live.net live.kept) in
    let here : c.index-letters-index.result ≡ get_or sets c.args.index c.index-letters-index.result = c.index-letters-index.is ∙ ap (λ ls. get_or ls c.args.index c.index-letters-index.result) c.letters.ensures in
    let set : c.index-letters-index.result ≡ get_or sets c.args.index 0 = get_or_read sets c.args.index c.index-letters-index.result below here 0 in
    sets_at (board_of live.position.grid) live.position.bank.words (flags_of (lights_of live.position.grid) live.net) sets c.args.index ∙ ap letters_in (sym set)
