use Rattle.std.proofs.Common.{◌≡◌, length, sym, ap, ◌∙◌, subst}
use Rattle.xw_words.specs.Dictionary.{with_least}
use Rattle.xw_grid.specs.EditLaws.{SameShape}
use Rattle.xw_feas.specs.Board.{board_of}
use Rattle.xw_feas.specs.EngineState.{state_of}
use Rattle.xw_feas.specs.Standing.{HasRows}
use Rattle.xw_feas.specs.State.{State}
use Rattle.xw_feas.proofs.BoardLemmas.{length-open_cells}
use Rattle.xw_feas.proofs.ShapeLemmas.{HasRows-kept}
use Rattle.xw_plain.proofs.Levels.{alike_then, counts_kept}
use Rattle.xw_plain.proofs.plain.Plain.take_state.Goals as goal

pub settle_position-requires : goal.settle_position-requires
settle_position-requires c =
    let engine = c.args.self.now in
    let words = engine.position.bank.words in
    let least = c.args.least in
    let state : state_of c.choose_least.new.self ≡ record { grid = c.args.grid.now; words = with_least least words } =
    c.choose_least.ensures ∙ ap (λ (state : State). record { grid = state.grid; words = with_least least state.words }) c.exchange.ensures.now in
    record {
      rows = subst (λ (state : State). HasRows (board_of state.grid) state.words engine.words.items engine.letters.items) (sym state)
          (HasRows-kept engine.position.grid c.args.grid.now words (with_least least words) engine.words.items engine.letters.items c.requires (counts_kept words least) engine.rows);
    }

pub invariant_of-self : goal.invariant_of-self
invariant_of-self c =
    let engine = c.args.self.now in
    let now = c.choose_least.new.self.grid in
    let grid : now ≡ c.args.grid.now = ap (λ (state : State). state.grid) c.choose_least.ensures ∙ ap (λ (state : State). state.grid) c.exchange.ensures.now in
    record {
      rows = c.settle_position.ensures.rows;
      exact = c.settle_position.ensures.exact;
      answered = c.settle_position.ensures.answers;
      same_cells =
          engine.same_cells ∙ engine.rows.cells ∙ length-open_cells engine.position.grid ∙ sym c.requires.cells
          ∙ sym (ap (λ grid. length grid.squares) grid) ∙ sym (length-open_cells now) ∙ sym c.settle_position.ensures.rows.cells;
      alike = alike_then engine.levels.items engine.position.grid now (subst (SameShape engine.position.grid) (sym grid) c.requires) engine.alike;
    }

pub returns-clause-now : goal.returns-clause-now
returns-clause-now c =
    c.choose_least.ensures ∙ ap (λ (state : State). record { grid = state.grid; words = with_least c.args.least state.words }) c.exchange.ensures.now
