use Rattle.std.proofs.Common.{◌≡◌, ◌<◌, length, not, true, ap, sym, ◌∙◌, arith}
use Rattle.std.specs.Prelude.{is_some}
use Rattle.std.proofs.lemmas.Bool.{false≢true}
use Rattle.xw_search.specs.Position.{position_of}
use Rattle.xw_search.specs.FeasibleWords.{feasible_words}
use Rattle.xw_search.specs.Lights.{light_count}
use Rattle.xw_fill.specs.Search.{chosen_below, chosen}
use Rattle.xw_fill.proofs.ScanLemmas.{chosen-entered, chosen-better, chosen-as_good}
use Rattle.xw_fill.proofs.scan.chosen.Goals as goal
use Rattle.xw_fill.proofs.scan.chosen.Goals.{then-not-is_entered+then-is_none, then-is_none-via-then-is_none, then-is_none-via-else-is_none+then-count-fewest, then-not-is_entered+else-is_none+else-count-fewest, else-not-is_entered}

pub loop-light-preserved : goal.loop-light-preserved
loop-light-preserved g c =
    let position = position_of (g.E.Feasible.state c.args.engine.now) in
    let so_far = c.loop-light.invariant in
    elim c.if-not-is_entered.branch [
      | then-not-is_entered+then-is_none w ↦
          let fewer : is_some c.loop-light.best ≡ true → w.word_count-count.result < c.loop-light.fewest = λ some. elim w.then-is_none.branch [
            | then-is_none-via-then-is_none w' ↦ absurd (false≢true (sym (w.is_none.ensures ∙ ap not w'.if-is_none.true) ∙ some))
            | then-is_none-via-else-is_none+then-count-fewest w' ↦ w'.if-count-fewest.true
          ] in
          record {
            best = chosen-better position c.loop-light.light c.loop-light.best c.loop-light.fewest w.word_count-count.result (sym c.is_entered.ensures ∙ w.if-not-is_entered.true) so_far.best so_far.fewest w.word_count-count.ensures fewer ∙ sym w.best-is;
            fewest = λ light e. let same : c.loop-light.light ≡ light = cc in w.fewest-is ∙ w.word_count-count.ensures ∙ ap (λ l. length (feasible_words position l)) same;
          }
      | then-not-is_entered+else-is_none+else-count-fewest w ↦ record {
        best = chosen-as_good position c.loop-light.light c.loop-light.best c.loop-light.fewest w.word_count-count.result (sym c.is_entered.ensures ∙ w.if-not-is_entered.true) so_far.best so_far.fewest w.word_count-count.ensures (w.is_none.ensures ∙ ap not w.if-is_none.false) (omega (arith, w.if-count-fewest.false)) ∙ sym w.best-is;
        fewest = λ light e. w.fewest-is ∙ so_far.fewest light (sym w.best-is ∙ e);
      }
      | else-not-is_entered w ↦ record {
        best = chosen-entered position c.loop-light.light (sym c.is_entered.ensures ∙ w.if-not-is_entered.false) ∙ so_far.best ∙ sym w.best-is;
        fewest = λ light e. w.fewest-is ∙ so_far.fewest light (sym w.best-is ∙ e);
      }
    ]

pub returns : goal.returns
unfolding chosen
returns g c =
    let position = position_of (g.E.Feasible.state c.args.engine.now) in
    let all : c.loop-light.light ≡ light_count position = omega (arith, c.loop-light.auto.light-end, c.loop-light-test.false, c.light_count-light-end.ensures) in
    sym c.loop-light.invariant.best ∙ ap (chosen_below position) all
