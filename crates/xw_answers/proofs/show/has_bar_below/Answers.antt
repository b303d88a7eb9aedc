use Rattle.std.proofs.Common.{◌≡◌, ◌<◌, ◌≤◌, ℕ, Bool, ap, sym, ◌∙◌, arith}
use Rattle.xw_grid.specs.declared.cell.Side.TheVariants.{Below}
use Rattle.xw_grid.specs.Grid.{is_barred}
use Rattle.xw_answers.specs.Show.{cell_in}
use Rattle.xw_answers.proofs.Bars.{passes_at, none_more, none_at_all}
use Rattle.xw_answers.proofs.show.has_bar_below.Goals as goal

pub returns-then-is_barred : goal.returns-then-is_barred
returns-then-is_barred c =
    let test : ℕ → Bool = λ before. is_barred c.args.grid.now (cell_in c.args.row before) Below in
    let is : c.is_barred.result ≡ test c.loop-before.before = c.is_barred.ensures ∙ ap (λ cell. is_barred c.args.grid.now cell Below) c.cell_in.ensures in
    let inside : c.loop-before.before < c.args.grid.now.width = omega arith in
    sym (passes_at test c.args.grid.now.width c.loop-before.before inside (sym is ∙ c.if-is_barred.true))

pub loop-before-preserved : goal.loop-before-preserved
loop-before-preserved c =
    let test : ℕ → Bool = λ before. is_barred c.args.grid.now (cell_in c.args.row before) Below in
    let is : c.is_barred.result ≡ test c.loop-before.before = c.is_barred.ensures ∙ ap (λ cell. is_barred c.args.grid.now cell Below) c.cell_in.ensures in
    let inside : c.loop-before.before < c.args.grid.now.width = omega arith in
    none_more test c.args.grid.now.width c.loop-before.before inside c.loop-before.invariant (sym is ∙ c.if-is_barred.false)

pub returns : goal.returns
returns c =
    let test : ℕ → Bool = λ before. is_barred c.args.grid.now (cell_in c.args.row before) Below in
    let past : c.args.grid.now.width ≤ c.loop-before.before = omega arith in
    sym (none_at_all test c.args.grid.now.width c.loop-before.before past c.loop-before.invariant)
