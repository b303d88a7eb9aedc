use Rattle.std.proofs.Common.{length, sym, ◌∙◌, subst}
use Rattle.xw_words.specs.Dictionary.{Dictionary}
use Rattle.xw_grid.specs.Grid.{Grid}
use Rattle.xw_feas.specs.Board.{board_of}
use Rattle.xw_feas.specs.Shape.{GrowsAt}
use Rattle.xw_feas.specs.Standing.{HasRows}
use Rattle.xw_feas.specs.State.{State}
use Rattle.xw_feas.proofs.BoardLemmas.{length-open_cells}
use Rattle.xw_feas.proofs.ShapeLemmas.{HasRows-kept, HasRows-grown, HasRows-made}
use Rattle.xw_plain.proofs.plain.Plain.apply.Goals.{in-InPlace, in-Shape+in_ok-grid-in-Shape+in_ok-rows-in-Shape, in-New+in_ok-rows-in-New+in_ok-reserve-in-New}
use Rattle.xw_plain.proofs.plain.Plain.apply.Goals as goal

-- each kind of edit leaves rows that fit
pub settle_anew-requires-clause-rows : goal.settle_anew-requires-clause-rows
settle_anew-requires-clause-rows c =
    let was = c.args.self.now.position in
    let letters = c.args.self.now.letters.items in
    let rows : HasRows (board_of was.grid) was.bank.words c.args.self.now.words.items letters = c.args.self.now.rows in
    elim c.match-pending.branch [
      | in-InPlace w ↦
          let now = w.commit.new.self in
          subst (λ s. HasRows (board_of s.1.1.0.grid) s.1.1.0.bank.words s.1.1.1.0.items letters) (sym w.self-is)
          (HasRows-kept was.grid now.grid was.bank.words now.bank.words c.args.self.now.words.items letters w.commit.ensures.shape w.commit.ensures.counts rows)
      | in-Shape+in_ok-grid-in-Shape+in_ok-rows-in-Shape w ↦
          let made = w.in_ok-rows-in-Shape in
          subst (λ s. HasRows (board_of s.1.1.0.grid) s.1.1.0.bank.words s.1.1.1.0.items letters) (sym w.self-is)
          (subst (λ (state : State). HasRows (board_of state.grid) state.words made.rows.items letters) (sym w.reshape.ensures.state)
          (HasRows-made w.in_ok-grid-in-Shape.grid was.bank.words made.rows.items letters made.ensures.ok (rows.cells ∙ length-open_cells was.grid ∙ sym w.in_ok-grid-in-Shape.ensures.cells)))
      | in-New+in_ok-rows-in-New+in_ok-reserve-in-New w ↦
          let made = w.in_ok-rows-in-New in
          subst (λ s. HasRows (board_of s.1.1.0.grid) s.1.1.0.bank.words s.1.1.1.0.items letters) (sym w.self-is)
          (subst (λ (grid : Grid). HasRows (board_of grid) w.append.new.self.bank.words made.rows.items letters) (sym (w.append.ensures.grid ∙ w.reserve.ensures.grid))
          (HasRows-grown (board_of was.grid) was.bank.words w.append.new.self.bank.words (length w.in-New.word.now) made.rows.items letters made.ensures.ok
          (subst (λ (words : Dictionary). GrowsAt words w.append.new.self.bank.words (length w.in-New.word.now)) w.reserve.ensures.words w.append.ensures.counts)
          rows.cells))
    ]
