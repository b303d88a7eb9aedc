use Rattle.std.proofs.Common.{sym, ◌∙◌}
use Rattle.xw_files.proofs.PuzLemmas.ClueLemmas.{clues-step, clues-end}
use Rattle.xw_files.proofs.puz.read.clues_by.Goals as goal

pub returns-in_default-clause-ok : goal.returns-in_default-clause-ok
returns-in_default-clause-ok c = sym (clues-end c.loop-index.clues c.args.lights.now _ c.loop-index.index (sym c.get.ensures ∙ c.in_default.is)) ∙ c.loop-index.invariant

pub loop-index-preserved : goal.loop-index-preserved
loop-index-preserved c =
    rw (c.in_ok-set.ensures.ok)
    (sym (clues-step c.loop-index.clues c.args.lights.now c.args.texts.now c.loop-index.index c.in-Some.light _ (sym c.get.ensures ∙ c.in-Some.is) c.loop-index-test.true) ∙ c.loop-index.invariant)
