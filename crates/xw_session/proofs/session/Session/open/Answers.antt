use Rattle.std.proofs.Common.{◌≡◌, ◌∙◌, ℕ, List, false, ap}
use Rattle.xw_grid.specs.Puzzle.{texts_view}
use Rattle.xw_session.specs.State.{SessionState}
use Rattle.xw_answers.specs.Record.{known_counts}
use Rattle.xw_session.proofs.session.Session.open.Goals as goal

pub returns : goal.returns
returns g c =
    let counts : c.known_words-begun.result ≡ known_counts (g.E.Feasible.state c.args.engine).words = c.known_words-begun.ensures ∙ ap known_counts c.bank.ensures in
    let begins : List ℕ → SessionState = λ begun. record { engine = g.E.Feasible.state c.args.engine; texts = texts_view c.args.texts; clues = c.args.clues; circles = c.args.circles; is_watched = false; begun = begun } in
    ap begins counts
