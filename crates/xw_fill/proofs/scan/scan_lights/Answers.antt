use Rattle.std.proofs.Common.{◌≡◌, ◌<◌, ◌+◌, length, not, true, false, ap, sym, ◌∙◌, arith, add-one}
use Rattle.std.specs.Prelude.{is_some}
use Rattle.std.proofs.lemmas.Bool.{false≢true, or_from}
use Rattle.xw_search.specs.Position.{position_of}
use Rattle.xw_search.specs.FeasibleWords.{feasible_words}
use Rattle.xw_search.specs.Below.{any_below}
use Rattle.xw_search.specs.Lights.{light_count, lacks_words, is_entered}
use Rattle.xw_fill.proofs.ScanLemmas.{lacks_words-none, chosen-entered, chosen-better, chosen-as_good, scanned-blocked, scanned-open}
use Rattle.xw_search.proofs.LightLemmas.{lacks_words-some}
use Rattle.xw_fill.proofs.scan.scan_lights.Goals as goal
use Rattle.xw_fill.proofs.scan.scan_lights.Goals.{then-not-entered+then-is_none, then-is_none-via-then-is_none, then-is_none-via-else-is_none+then-count-least, then-not-entered+else-is_none+else-count-least, else-not-entered}

pub returns-then-count-eq0 : goal.returns-then-count-eq0
returns-then-count-eq0 g c =
    let position = position_of (g.E.Feasible.state c.args.engine.now) in
    sym (scanned-blocked position c.loop-light.light (omega (arith, c.loop-light-test.true, c.light_count-light-end.ensures))
    (lacks_words-none position c.loop-light.light c.word_count-count.result c.word_count-count.ensures c.if-count-eq0.true))

pub loop-light-preserved : goal.loop-light-preserved
loop-light-preserved g c =
    let position = position_of (g.E.Feasible.state c.args.engine.now) in
    let light = c.loop-light.light in
    let so_far = c.loop-light.invariant in
    let flag = c.is_some-entered.ensures ∙ c.requires.entered light (omega (arith, c.loop-light-test.true, c.light_count-light-end.ensures)) in
    let none : any_below (lacks_words position) (light + 1) ≡ false = rw add-one (or_from _ _ so_far.none (lacks_words-some position light c.word_count-count.result c.word_count-count.ensures c.if-count-eq0.false)) in
    elim c.if-not-entered.branch [
      | then-not-entered+then-is_none w ↦
          let fewer : is_some c.loop-light.best ≡ true → c.word_count-count.result < c.loop-light.least = λ some. elim w.then-is_none.branch [
            | then-is_none-via-then-is_none w' ↦ absurd (false≢true (sym (w.is_none.ensures ∙ ap not w'.if-is_none.true) ∙ some))
            | then-is_none-via-else-is_none+then-count-least w' ↦ w'.if-count-least.true
          ] in
          let open_now : is_entered position light ≡ false = sym flag ∙ w.if-not-entered.true in
          record {
            none = none;
            best = chosen-better position light c.loop-light.best c.loop-light.least c.word_count-count.result open_now so_far.best so_far.least c.word_count-count.ensures fewer ∙ sym w.best-is;
            least = λ other e. let same : light ≡ other = cc in w.least-is ∙ c.word_count-count.ensures ∙ ap (λ l. length (feasible_words position l)) same;
          }
      | then-not-entered+else-is_none+else-count-least w ↦
          let open_now : is_entered position light ≡ false = sym flag ∙ w.if-not-entered.true in
          record {
            none = none;
            best = chosen-as_good position light c.loop-light.best c.loop-light.least c.word_count-count.result open_now so_far.best so_far.least c.word_count-count.ensures (w.is_none.ensures ∙ ap not w.if-is_none.false) (omega (arith, w.if-count-least.false)) ∙ sym w.best-is;
            least = λ other e. w.least-is ∙ so_far.least other (sym w.best-is ∙ e);
          }
      | else-not-entered w ↦ record {
        none = none;
        best = chosen-entered position light (sym flag ∙ w.if-not-entered.false) ∙ so_far.best ∙ sym w.best-is;
        least = λ other e. w.least-is ∙ so_far.least other (sym w.best-is ∙ e);
      }
    ]

pub returns : goal.returns
returns g c =
    let position = position_of (g.E.Feasible.state c.args.engine.now) in
    let all : c.loop-light.light ≡ light_count position = omega (arith, c.loop-light.auto.light-end, c.loop-light-test.false, c.light_count-light-end.ensures) in
    sym (scanned-open position c.loop-light.light c.loop-light.best all c.loop-light.invariant.none c.loop-light.invariant.best)
