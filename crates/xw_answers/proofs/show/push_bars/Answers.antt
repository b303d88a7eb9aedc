use Rattle.std.proofs.Common.{◌≡◌, ◌++◌, ◌∙◌, ap, ℕ, List, length, arith, length-append}
use Rattle.xw_answers.specs.Show.{bar_pair, cell_in}
use Rattle.xw_answers.proofs.Sending.{text_pushed, all_texts}
use Rattle.xw_answers.proofs.show.push_bars.Goals as goal

pub loop-before-preserved : goal.loop-before-preserved
loop-before-preserved c =
    let text : ℕ → List ℕ = λ before. bar_pair c.args.grid.now (cell_in c.args.row before) in
    let is : c.bar_pair.result ≡ text c.loop-before.before = c.bar_pair.ensures ∙ ap (bar_pair c.args.grid.now) c.cell_in.ensures in
    let before = c.loop-before.invariant in
    record {
      is = c.push_bytes.ensures ∙ text_pushed text c.args.grid.now.width c.loop-before.before c.args.line.now c.loop-before.line c.bar_pair.result (omega arith) before.is is;
      long = omega (arith, before.long, ap length c.push_bytes.ensures, length-append c.loop-before.line c.bar_pair.result);
    }

pub returns : goal.returns
returns c =
    let text : ℕ → List ℕ = λ before. bar_pair c.args.grid.now (cell_in c.args.row before) in
    c.loop-before.invariant.is ∙ ap (λ xs. c.args.line.now ++ xs) (all_texts text c.args.grid.now.width c.loop-before.before (omega arith))
