use Rattle.std.proofs.Common.{◌≡◌, ℕ, ◌+◌, ◌++◌, ◌∷◌, [], ap, sym, ◌∙◌, arith}
use Rattle.xw_grid.specs.Grid.{entry}
use Rattle.xw_grid.specs.Light.{step}
use Rattle.xw_answers.specs.Text.{letter_or_dot}
use Rattle.xw_answers.proofs.LightTexts.{one_more_made, pattern_by_positions}
use Rattle.xw_answers.proofs.text.Pattern.new.Goals as goal

pub push-requires : goal.push-requires
push-requires c = omega (arith, c.loop-k.invariant.long, c.loop-k-test.true, c.requires.short)

pub loop-k-preserved : goal.loop-k-preserved
loop-k-preserved c =
    let light = c.args.light.now in
    let byte : ℕ → ℕ = λ k. letter_or_dot (entry c.args.grid.now (step light.name.direction light.start k)) in
    let here : c.letter_or_dot.result ≡ byte c.loop-k.k = c.letter_or_dot.ensures ∙ ap letter_or_dot (c.entry.ensures.entry ∙ ap (entry c.args.grid.now) c.cell.ensures) in
    record {
      long = c.push.ensures.len ∙ ap (λ n. n + 1) c.loop-k.invariant.long;
      is = c.push.ensures.items ∙ ap (λ front. front ++ c.letter_or_dot.result ∷ []) c.loop-k.invariant.is ∙ rw here (sym (one_more_made byte c.loop-k.k));
    }

pub returns : goal.returns
returns c =
    let same : c.args.light.now.size ≡ c.loop-k.k = omega (arith, c.loop-k-test.false, c.loop-k.auto.k-end) in
    c.loop-k.invariant.is ∙ rw (← same) (sym (pattern_by_positions c.args.grid.now c.args.light.now))
