use Rattle.std.proofs.Common.{sym, arith}
use Rattle.xw_search.specs.Position.{position_of}
use Rattle.xw_search.specs.Lights.{lacks_words, light_count}
use Rattle.xw_search.proofs.BelowLemmas.{first_below-here, first_below-more}
use Rattle.xw_fill.proofs.ScanLemmas.{lacks_words-none}
use Rattle.xw_search.proofs.LightLemmas.{lacks_words-some}
use Rattle.xw_fill.proofs.scan.first_without_words.Goals as goal

pub returns-then-word_count-eq0 : goal.returns-then-word_count-eq0
returns-then-word_count-eq0 g c =
    let state = position_of (g.E.Feasible.state c.args.engine.now) in
    sym (first_below-here (lacks_words state) (light_count state) c.loop-light.light (omega (arith, c.light_count-light-end.ensures)) c.loop-light.invariant
    (lacks_words-none state c.loop-light.light c.word_count.result c.word_count.ensures c.if-word_count-eq0.true))

pub loop-light-preserved : goal.loop-light-preserved
loop-light-preserved g c =
    let state = position_of (g.E.Feasible.state c.args.engine.now) in
    first_below-more (lacks_words state) c.loop-light.light c.loop-light.invariant
    (lacks_words-some state c.loop-light.light c.word_count.result c.word_count.ensures c.if-word_count-eq0.false)
