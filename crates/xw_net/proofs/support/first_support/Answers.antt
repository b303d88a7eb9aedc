use Rattle.std.proofs.Common.{◌&&◌, sym, ap, ◌∙◌}
use Rattle.xw_words.specs.Columns.{has_letter}
use Rattle.xw_net.proofs.BaseRows.ClearRows.{none_set}
use Rattle.xw_net.specs.Support.{supports}
use Rattle.xw_net.proofs.support.first_support.Goals as goal

pub returns-clause-found : goal.returns-clause-found
unfolding supports
returns-clause-found g c = c.next_with.ensures.found

pub returns-clause-first : goal.returns-clause-first
unfolding supports
returns-clause-first g c = c.next_with.ensures.first

pub returns-clause-none : goal.returns-clause-none
unfolding supports
returns-clause-none g c = c.next_with.ensures.none

pub returns-then-count-eq0-clause-none : goal.returns-then-count-eq0-clause-none
unfolding supports
returns-then-count-eq0-clause-none g c other beyond =
    ap (λ bit. bit && has_letter (g.R.Rows.entries c.args.rows.now c.args.len) c.args.position c.args.letter other) (none_set c.args.row.now.bits (sym c.count.ensures ∙ c.if-count-eq0.true) other)
