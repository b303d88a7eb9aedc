use Rattle.std.proofs.Common.{◌+◌, ◌*◌, length, sym, ap, ◌∙◌}
use Rattle.xw_words.specs.Columns.{has_letter}
use Rattle.xw_words.proofs.MatchLemmas.{all_bits}
use Rattle.xw_feas.specs.Board.{entry}
use Rattle.xw_net.specs.Base.{has_entry}
use Rattle.xw_net.proofs.base.agreeing_in.Goals as goal

pub returns-in-None-clause-words : goal.returns-in-None-clause-words
returns-in-None-clause-words g c k lt =
    all_bits k lt ∙ ap (λ e. has_entry e (g.R.Rows.entries c.args.rows.now (length c.args.cells.now)) c.args.position (64 * c.args.chunk + k)) (sym c.in-None.is ∙ c.entry.ensures.entry ∙ ap (entry c.args.board.now) c.at.ensures)

pub returns-in-Some-clause-words : goal.returns-in-Some-clause-words
returns-in-Some-clause-words g c k lt =
    c.column.ensures.bits k lt
    ∙ ap (λ n. has_letter (g.R.Rows.entries c.args.rows.now n) c.args.position c.in-Some.letter (64 * c.args.chunk + k)) c.len.ensures
    ∙ ap (λ e. has_entry e (g.R.Rows.entries c.args.rows.now (length c.args.cells.now)) c.args.position (64 * c.args.chunk + k)) (sym c.in-Some.is ∙ c.entry.ensures.entry ∙ ap (entry c.args.board.now) c.at.ensures)
