use Rattle.std.proofs.Common.{◌∙◌}
use Rattle.std.proofs.lemmas.Iterator.Adapters.{YieldsList-from_vec}
use Rattle.std.proofs.lemmas.Iterator.Consumers.{YieldsList-end}
use Rattle.xw_words.proofs.LoaderLemmas.{IsKept-rows}
use Rattle.xw_words.proofs.loader.make_rows.Goals as goal

pub returns-clause-words : goal.returns-clause-words
returns-clause-words c =
    let gives = c.into_iter-table-iterator.ensures.into_iter_gives in
    let seen = YieldsList-end (YieldsList-from_vec c.args.tables.items gives.0 (gives.1 ∙ c.args.tables.ok.0)) c.loop-table.yielded c.loop-table.table-iterator c.loop-table.yielded_by c.next.result c.next.new.self c.in-None.is c.next.ensures.steps in
    (IsKept-rows c.args.tables.items c.loop-table.yielded c.loop-table.rows.items c.requires.kept seen.0 c.loop-table.invariant.entries c.loop-table.invariant.word_lens).0

pub returns-clause-kept : goal.returns-clause-kept
returns-clause-kept c =
    let gives = c.into_iter-table-iterator.ensures.into_iter_gives in
    let seen = YieldsList-end (YieldsList-from_vec c.args.tables.items gives.0 (gives.1 ∙ c.args.tables.ok.0)) c.loop-table.yielded c.loop-table.table-iterator c.loop-table.yielded_by c.next.result c.next.new.self c.in-None.is c.next.ensures.steps in
    (IsKept-rows c.args.tables.items c.loop-table.yielded c.loop-table.rows.items c.requires.kept seen.0 c.loop-table.invariant.entries c.loop-table.invariant.word_lens).1
