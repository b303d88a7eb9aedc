-- The clue commands of a record, in reading order.
use Rattle.std.proofs.Common.{◌≡◌, ℕ, ◌+◌, ◌*◌, ◌<◌, false, List, [], ◌∷◌, ◌++◌, Some, refl, sym, ◌∙◌, ap, append-nil, arith}
use Rattle.std.specs.Option.{option_and_then}
use Rattle.xw_grid.specs.declared.cell.Cell.{Cell}
use Rattle.xw_grid.specs.declared.cell.Direction.{Direction}
use Rattle.xw_grid.specs.declared.cell.Direction.TheVariants.{Across, Down}
use Rattle.xw_grid.specs.Grid.{Grid, IsGrid, cell_at}
use Rattle.xw_grid.specs.Clue.{Texts, ClueMap, no_clues, clue_at, text_at, with_clue}
use Rattle.xw_grid.proofs.GridLemmas.{cell_at-inside}
use Rattle.xw_commands.specs.declared.command.Field.TheVariants as fields
use Rattle.xw_answers.specs.declared.record.Part.TheVariants.{Clues}
use Rattle.xw_session.specs.State.{SessionState}
use Rattle.xw_answers.specs.Escape.{has_nul}
use Rattle.xw_answers.specs.Record.{spot_of, clue_commands, cell_commands, part_commands}
use Rattle.xw_session_laws.specs.Replay.{replayed, with_grid, AreTextsFrom, clues_of}
use Rattle.xw_session_laws.proofs.Replaying.{replayed_both, text_again}
use Rattle.xw_session_laws.proofs.CellsAgain.{each_cell_again}
use Rattle.xw_session_laws.proofs.InOrder.{texts_before, no_texts_before, all_texts_before, entry_of_text, one_text_more, plain_at, put_last}

-- the clues with those of one direction replaced
abbrev pub with_clues : ClueMap → Direction → Texts → ClueMap
with_clues clues Across texts = record clues { across = texts }
with_clues clues Down texts = record clues { down = texts }

is_text_at : (clues : ClueMap) (cell : Cell) (direction : Direction) → clue_at clues cell direction ≡ text_at (clues_of clues direction) cell
is_text_at clues cell Across = refl
is_text_at clues cell Down = refl

module _ (state : SessionState) (grid : Grid) (is : IsGrid grid) (clues : ClueMap) (direction : Direction) (are : AreTextsFrom grid 0 (clues_of clues direction)) where
  abbrev texts : Texts
  texts = clues_of clues direction

  abbrev after : ℕ → SessionState
  after k = record (with_grid state grid) { clues = with_clues state.clues direction (texts_before grid k texts) }

  module _ (k : ℕ) (below : k < grid.width * grid.height) where
    abbrev here : Cell
    here = cell_at grid k

    put_there : (way : Direction) (byte : ℕ) (bytes : List ℕ) → with_clue (with_clues state.clues way (texts_before grid k texts)) here way (byte ∷ bytes) ≡ with_clues state.clues way (texts_before grid k texts ++ (here, byte ∷ bytes) ∷ [])
    put_there Across byte bytes = ap (with_clues state.clues Across) (put_last grid k (byte ∷ bytes) (omega (arith, is.wide)) texts 0 are)
    put_there Down byte bytes = ap (with_clues state.clues Down) (put_last grid k (byte ∷ bytes) (omega (arith, is.wide)) texts 0 are)

    clue_step : (text : List ℕ) → text_at texts here ≡ text → has_nul text ≡ false → replayed (after k) (clue_commands here direction text) ≡ Some (after (k + 1))
    clue_step [] e plain =
        ap (λ es. Some (record (with_grid state grid) { clues = with_clues state.clues direction es }))
        (sym (one_text_more grid k texts 0 are ∙ ap (λ text. texts_before grid k texts ++ entry_of_text grid here text) e ∙ append-nil (texts_before grid k texts)))
    clue_step (byte ∷ bytes) e plain =
        text_again (after k) (fields.Clue (spot_of here) direction) (byte ∷ bytes) (cell_at-inside grid k is below) plain
        ∙ ap (λ cs. Some (record (with_grid state grid) { clues = cs })) (put_there direction byte bytes)
        ∙ ap (λ es. Some (record (with_grid state grid) { clues = with_clues state.clues direction es }))
        (sym (one_text_more grid k texts 0 are ∙ ap (λ text. texts_before grid k texts ++ entry_of_text grid here text) e))

    clue_at_here : replayed (after k) (clue_commands here direction (clue_at clues here direction)) ≡ Some (after (k + 1))
    clue_at_here =
        ap (λ text. replayed (after k) (clue_commands here direction text)) (is_text_at clues here direction)
        ∙ clue_step (text_at texts here) refl (plain_at grid texts 0 here are)

  pub clues_again : (circles : List Cell) → clues_of state.clues direction ≡ [] → replayed (with_grid state grid) (part_commands grid clues circles (Clues direction))
      ≡ Some (record (with_grid state grid) { clues = with_clues state.clues direction texts })
  clues_again circles none =
      let start : with_grid state grid ≡ after 0 =
      ap (λ cs. record (with_grid state grid) { clues = cs }) (nothing_there direction none) ∙ ap (λ es. record (with_grid state grid) { clues = with_clues state.clues direction es }) (sym (no_texts_before grid texts 0 0 are (omega arith))) in
      ap (λ s. replayed s (part_commands grid clues circles (Clues direction))) start
      ∙ each_cell_again grid (cell_commands grid clues circles (Clues direction)) after (λ k below. clue_at_here k below)
      ∙ ap (λ es. Some (record (with_grid state grid) { clues = with_clues state.clues direction es })) (all_texts_before grid texts 0 are)
    where
      nothing_there : (way : Direction) → clues_of state.clues way ≡ [] → state.clues ≡ with_clues state.clues way []
      nothing_there Across e = ap (λ es. with_clues state.clues Across es) e
      nothing_there Down e = ap (λ es. with_clues state.clues Down es) e

pub both_again : (state : SessionState) (grid : Grid) → IsGrid grid → (clues : ClueMap) → ((direction : Direction) → AreTextsFrom grid 0 (clues_of clues direction)) → (circles : List Cell)
    → replayed (record (with_grid state grid) { clues = no_clues }) (part_commands grid clues circles (Clues Across) ++ part_commands grid clues circles (Clues Down))
    ≡ Some (record (with_grid state grid) { clues = clues })
both_again state grid is clues are circles =
    let bare : SessionState = record state { clues = no_clues } in
    let half : SessionState = record state { clues = with_clues no_clues Across clues.across } in
    let rest = part_commands grid clues circles (Clues Down) in
    replayed_both (with_grid bare grid) (part_commands grid clues circles (Clues Across)) rest
    ∙ ap (option_and_then (λ mid. replayed mid rest)) (clues_again bare grid is clues Across (are Across) circles refl)
    ∙ clues_again half grid is clues Down (are Down) circles refl
