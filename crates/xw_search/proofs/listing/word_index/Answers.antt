use Rattle.std.proofs.Common.{◌≡◌, length, take, ap, ◌∙◌}
use Rattle.xw_words.specs.Dictionary.{index_of_word}
use Rattle.xw_feas.specs.Board.{board_of, light_at, spelled}
use Rattle.xw_search.specs.Position.{position_of}
use Rattle.xw_search.specs.Lights.{spelling}
use Rattle.xw_search.proofs.listing.word_index.Goals as goal

pub returns : goal.returns
returns g c =
    let state = g.E.Feasible.state c.args.engine.now in
    let cells : c.light-cells.result ≡ light_at (board_of state.grid) c.args.light = c.light-cells.ensures.cells ∙ ap (λ board. light_at board c.args.light) c.board-board.ensures in
    let word : take (length c.light-cells.result) c.spell-letters.result ≡ spelling (position_of state) c.args.light =
    c.spell-letters.ensures ∙ ap (spelled c.board-board.result) cells ∙ ap (λ board. spelled board (light_at (board_of state.grid) c.args.light)) c.board-board.ensures in
    c.find.ensures ∙ ap (λ words. index_of_word words (take c.len.result c.spell-letters.result)) c.bank.ensures ∙ ap (λ n. index_of_word state.words (take n c.spell-letters.result)) c.len.ensures ∙ ap (index_of_word state.words) word
