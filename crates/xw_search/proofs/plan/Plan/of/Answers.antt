use Rattle.xw_feas.specs.Board.{board_of}
use Rattle.xw_search.specs.NamedFill.{flags}
use Rattle.xw_search.proofs.LetterSearch.{targets_open}
use Rattle.xw_search.proofs.Shaped.{shaped}
use Rattle.xw_search.proofs.StateLemmas.{DiffersInEntries-itself}
use Rattle.xw_search.proofs.plan.Plan.of.Goals as goal

pub crossings_of-requires : goal.crossings_of-requires
crossings_of-requires g c =
    let start = g.E.Feasible.state c.args.engine.now in
    targets_open (flags c.deref.result.now) start start c.in_ok-targets.targets.items c.deref-3.result.now (DiffersInEntries-itself start) (shaped (board_of start.grid) (g.met.E.Feasible.well_formed c.args.engine.now).board) c.in_ok-targets.ensures.sound c.deref-3.ensures.value
