use Rattle.std.proofs.Common.{sym, ap, subst, ◌∙◌, ◌<◌}
use Rattle.xw_feas.specs.Board.{Board, light_at}
use Rattle.xw_search.specs.Position.{Position, position_of}
use Rattle.xw_search.specs.Lights.{light_count}
use Rattle.xw_fill.specs.Inner.Trial.{taken_back, AreBlanks}
use Rattle.xw_fill.specs.declared.trial.Trial.{Trial}
use Rattle.xw_search.proofs.LetterSearch.{position_at}
use Rattle.xw_search.proofs.Shaped.{shaped}
use Rattle.xw_fill.proofs.Trail.{feasible_agrees}
use Rattle.xw_fill.proofs.TrialLemmas.{taken_back-agreed}
use Rattle.xw_fill.proofs.trial.Trial.place.Goals as goal

pub returns-clause-leads : goal.returns-clause-leads
returns-clause-leads g c =
    let before = g.E.Feasible.state c.args.engine.now in
    let start = position_of before in
    let trial : Trial = record { light = c.args.light; blanks = c.blanks_of-blanks.result } in
    let may = c.requires in
    let agree = feasible_agrees start c.args.light _ may.light_in may.not_entered may.feasible in
    let blanks : AreBlanks start.board (light_at start.board c.args.light) c.blanks_of-blanks.result =
    subst (λ cells. AreBlanks start.board cells c.blanks_of-blanks.result) (c.light.ensures.cells ∙ ap (λ (board : Board). light_at board c.args.light) c.board-board.ensures)
    (subst (λ (board : Board). AreBlanks board c.light.result c.blanks_of-blanks.result) c.board-board.ensures c.blanks_of-blanks.ensures) in
    record {
      light = subst (λ n. c.args.light < n) (sym (ap (λ (p : Position). light_count p) (position_at before (g.E.Feasible.state c.place_word.new.engine) c.place_word.ensures.entries))) may.light_in;
      back = ap (λ position. taken_back position trial) c.place_word.ensures.placed ∙ taken_back-agreed start trial _ (shaped start.board (g.met.E.Feasible.well_formed c.args.engine.now).board) agree blanks;
      entries = c.place_word.ensures.entries;
    }
