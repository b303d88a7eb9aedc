use Rattle.std.proofs.Common.{sym, ◌∙◌, subst}
use Rattle.xw_words.specs.Dictionary.{Dictionary}
use Rattle.xw_feas.specs.Board.{board_of}
use Rattle.xw_feas.specs.EngineState.{state_of}
use Rattle.xw_feas.specs.Standing.{HasRows}
use Rattle.xw_feas.proofs.BoardLemmas.{length-open_cells}
use Rattle.xw_feas.proofs.ShapeLemmas.{HasRows-shape}
use Rattle.xw_feas.proofs.TryingLemmas.{tried_takes}
use Rattle.xw_plain.proofs.Levels.{alike_then}
use Rattle.xw_plain.proofs.plain.Plain.enter_letter.Goals as goal

pub settle_position-requires : goal.settle_position-requires
settle_position-requires c =
    let engine = c.args.self.now in
    let now = c.enter.new.self in
    record {
      rows = subst (λ (words : Dictionary). HasRows (board_of now.grid) words engine.words.items engine.letters.items) (sym c.enter.ensures.words)
          (HasRows-shape engine.position.grid now.grid engine.position.bank.words engine.words.items engine.letters.items c.enter.ensures.shape engine.rows);
    }

pub invariant_of-self : goal.invariant_of-self
invariant_of-self c =
    let engine = c.args.self.now in
    let now = c.enter.new.self.grid in
    record {
      rows = c.settle_position.ensures.rows;
      exact = c.settle_position.ensures.exact;
      answered = c.settle_position.ensures.answers;
      same_cells =
          engine.same_cells ∙ engine.rows.cells ∙ length-open_cells engine.position.grid ∙ sym c.enter.ensures.shape.cells ∙ sym (length-open_cells now) ∙ sym c.settle_position.ensures.rows.cells;
      alike = alike_then engine.levels.items engine.position.grid now c.enter.ensures.shape engine.alike;
    }

pub enter-requires : goal.enter-requires
enter-requires c = tried_takes (state_of c.args.self.now.position) c.args.cell c.args.letter c.args.self.now.position.formed.grid c.requires
