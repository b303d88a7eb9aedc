use Rattle.std.proofs.Common.{◌≡◌, ◌-◌, arith, subst}
use Rattle.std.specs.Prelude.{IfOk}
use Rattle.xw_feas.specs.Board.{board_of}
use Rattle.xw_fill.specs.Filling.{IsFilling}
use Rattle.xw_search.proofs.Shaped.{shaped}
use Rattle.xw_fill.proofs.LawLemmas.{idle_ok}
use Rattle.xw_fill.proofs.Naming.{filled_ok}
use Rattle.xw_fill.proofs.named_lights.fill_by_words.Goals as goal

pub returns-clause-counted : goal.returns-clause-counted
returns-clause-counted g c =
    let before = g.E.Feasible.state c.args.engine.now in
    let after = g.E.Feasible.state c.fill-filling.new.engine in
    let formed = g.met.E.Feasible.well_formed c.args.engine.now in
    record {
      made = omega (arith, c.count_all.ensures.made, c.args.allowance.now.within);
      limit = c.count_all.ensures.limit;
      idle = λ none. idle_ok c.share.result before after c.fill-filling.result (shaped (board_of before.grid) formed.board) (omega (arith, none, c.count_all.ensures.made, c.share.ensures)) c.fill-filling.ensures.found c.fill-filling.ensures.unchanged;
    }

pub returns-clause-found : goal.returns-clause-found
returns-clause-found g c =
    let share : c.share.result ≡ c.args.allowance.now.until - c.args.allowance.now.made = omega (arith, c.share.ensures) in
    subst (λ n. IfOk c.fill-filling.result (IsFilling n (g.E.Feasible.state c.args.engine.now) (g.E.Feasible.state c.fill-filling.new.engine))) share c.fill-filling.ensures.found

pub returns-clause-ok : goal.returns-clause-ok
returns-clause-ok g c =
    filled_ok c.share.result (g.E.Feasible.state c.args.engine.now) (g.E.Feasible.state c.fill-filling.new.engine) c.fill-filling.result (g.met.E.Feasible.well_formed c.args.engine.now).board c.fill-filling.ensures.found c.fill-filling.ensures.fill

pub returns-clause-within : goal.returns-clause-within
returns-clause-within g c = omega (arith, c.fill-filling.ensures.within, c.share.ensures, c.count_all.ensures.made)

pub returns-clause-placed : goal.returns-clause-placed
returns-clause-placed g c is_limit = omega (arith, c.fill-filling.ensures.limit is_limit, c.share.ensures, c.count_all.ensures.made)
