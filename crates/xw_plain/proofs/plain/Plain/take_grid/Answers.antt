use Rattle.std.proofs.Common.{length, sym, ◌∙◌, ap, subst}
use Rattle.xw_feas.specs.Board.{board_of}
use Rattle.xw_feas.specs.Standing.{HasRows}
use Rattle.xw_feas.specs.State.{State}
use Rattle.xw_feas.proofs.BoardLemmas.{length-open_cells}
use Rattle.xw_feas.proofs.ShapeLemmas.{HasRows-made}
use Rattle.xw_plain.proofs.plain.Plain.take_grid.Goals as goal

pub settle_position-requires : goal.settle_position-requires
settle_position-requires c =
    record {
      rows = subst (λ (state : State). HasRows (board_of state.grid) state.words c.in_ok-words.words.items c.in_ok-letters.letters.items) (sym c.replace.ensures)
          (HasRows-made c.args.grid c.args.self.now.position.bank.words c.in_ok-words.words.items c.in_ok-letters.letters.items c.in_ok-words.ensures.ok c.in_ok-letters.ensures.ok);
    }

pub invariant_of-self-clause-same_cells : goal.invariant_of-self-clause-same_cells
invariant_of-self-clause-same_cells c = c.in_ok-before.ensures.ok ∙ sym (length-open_cells c.args.grid) ∙ ap (λ (state : State). length (board_of state.grid).open_cells) (sym c.replace.ensures) ∙ sym c.settle_position.ensures.rows.cells
