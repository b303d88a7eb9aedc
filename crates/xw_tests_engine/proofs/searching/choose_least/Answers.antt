use Rattle.std.proofs.Common.{refl, sym, subst}
use Rattle.xw_words.specs.Dictionary.{with_least}
use Rattle.xw_feas.specs.Snapshot.{CanSave}
use Rattle.xw_feas.specs.State.{State, least_chosen}
use Rattle.xw_feas.proofs.EditsLemmas.{edit_done}
use Rattle.xw_feas.proofs.SnapshotLemmas.{CanSave-least}
use Rattle.xw_tests_engine.proofs.searching.choose_least.Goals as goal

pub returns : goal.returns
returns g c =
    let before = g.E.Feasible.state c.args.engine.now in
    let after : State = record before { words = with_least c.args.grade before.words } in
    let done = edit_done before (g.E.Feasible.state c.edit.follows.lender-at-none) after (g.E.Feasible.answers c.args.engine.now) (g.E.Feasible.answers c.edit.follows.lender-at-none) (least_chosen c.args.grade) c.edit.result refl refl c.edit.follows.holds-at-none.0 in
    subst (CanSave before) (sym done) (CanSave-least before c.args.grade)
