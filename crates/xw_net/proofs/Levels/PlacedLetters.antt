-- A settled net in which letters were entered is ready for stripping, and a light that stripping leaves without a word is dead.
use Rattle.std.proofs.Common.{◌≡◌, ℕ, List, length, sym, ap, ◌∙◌, subst}
use Rattle.std.specs.Prelude.{Option}
use Rattle.xw_words.specs.Dictionary.{Dictionary, Entry, known_words}
use Rattle.xw_grid.specs.declared.cell.Cell.{Cell}
use Rattle.xw_grid.specs.Grid.{Grid}
use Rattle.xw_feas.specs.Board.{Board, light_at}
use Rattle.xw_net.specs.Base.{base_bits}
use Rattle.xw_net.specs.Entered.{IsEnteredIn, IsEntered, IsNarrowedTo, FillsEntered, DiesEntered}
use Rattle.xw_net.specs.Filled.{IsUnstripped, IsFilled}
use Rattle.xw_net.specs.Marks.{IsSetting}
use Rattle.xw_net.specs.Nets.{word_stands, letter_stands}
use Rattle.xw_net.specs.Steps.{FillsNet, Dies, IsEmptied}
use Rattle.xw_net.specs.Update.{IsSized, KeepsRoom}
use Rattle.xw_net.specs.declared.net.Net.{Net}
use Rattle.xw_net.proofs.Edits.ExactFamilies.{exact_covers}
use Rattle.xw_net.proofs.Levels.EnteredBoards.{with_entries}
use Rattle.xw_net.proofs.Levels.EnteredNets.{entered_unstripped}
use Rattle.xw_net.proofs.Stripping.DeadLights.{covered_dead}

module _ (grid : Grid) (board : Board) (entries : ℕ → List Entry) (dictionary : Dictionary) (setting : IsSetting board entries dictionary) (written : List (Cell × Option ℕ)) (old new : Net) where
  sized_read : IsSized board entries new → IsSized board (known_words dictionary) new
  sized_read sized = record {
    shaped = sized.shaped;
    chained = sized.chained;
    bits = λ light below. sized.bits light below ∙ ap length (setting.read (length (light_at board light)));
    base = record { rows = sized.base.rows; bits = λ light below. sized.base.bits light below ∙ ap length (setting.read (length (light_at board light))) };
  }

  narrowed_read : (filled : Option ℕ) (light : ℕ) → IsNarrowedTo board entries filled light old new → IsNarrowedTo board (known_words dictionary) filled light old new
  narrowed_read filled light on =
      let read = setting.read (length (light_at board light)) in
      record {
        base = λ was. on.base (λ cell found.
            let one = was cell found in
            record { before = one.before; more = one.more; row = one.row ∙ ap (base_bits one.before (light_at board light)) (sym read) }) ∙ ap (base_bits board (light_at board light)) read;
        rows = on.rows;
        flag = on.flag;
      }

  entered_read : IsEnteredIn grid board entries written old new → IsEnteredIn grid board (known_words dictionary) written old new
  entered_read is = record { queue = is.queue; on = λ light below marked. let on = is.on light below marked in record { filled = on.filled; only = on.only; narrowed = narrowed_read on.filled light on.narrowed }; off = is.off; letters = is.letters; rest = is.rest }

pub placed_unstripped : (grid : Grid) (before board : Board) (entries : ℕ → List Entry) (dictionary : Dictionary) (written : List (Cell × Option ℕ)) (old new : Net) → IsSetting board entries dictionary → IsEntered before dictionary grid written board
    → IsFilled before dictionary old → IsSized board entries new → KeepsRoom old new → IsEnteredIn grid board entries written old new → IsUnstripped board dictionary new
placed_unstripped grid before board entries dictionary written old new setting one filled sized room is =
    subst (λ (b : Board). IsSetting b entries dictionary → IsEntered before dictionary grid written b → IsSized b entries new → IsEnteredIn grid b entries written old new → IsUnstripped b dictionary new) (sym one.entries_only)
    (λ setting one sized is. entered_unstripped before board.entries dictionary grid written old new one filled (sized_read grid (with_entries before board.entries) entries dictionary setting written old new sized) room
    (entered_read grid (with_entries before board.entries) entries dictionary setting written old new is))
    setting one sized is

module _ (grid : Grid) (board : Board) (entries entries' : ℕ → List Entry) (same : entries' ≡ entries) (written : List (Cell × Option ℕ)) (old entered : Net) (sized : IsSized board entries entered) (room : KeepsRoom old entered)
    (is : IsEnteredIn grid board entries written old entered) where
  -- the net entered is ready for stripping
  ready : (before : Board) (dictionary : Dictionary) → IsSetting board entries dictionary → IsEntered before dictionary grid written board → IsFilled before dictionary old → IsUnstripped board dictionary entered
  ready before dictionary setting one filled = placed_unstripped grid before board entries dictionary written old entered setting one filled sized room is

  pub fills_entered : (last : Net) → FillsNet board entries' entered last → FillsEntered grid board entries written old last
  fills_entered last fills before dictionary setting one filled = fills dictionary (subst (λ e. IsSetting board e dictionary) (sym same) setting) (ready before dictionary setting one filled)

  pub dies_entered : (light : ℕ) → Dies board entries' entered light → DiesEntered grid board entries written old light
  dies_entered light dies before dictionary setting one filled = dies dictionary (subst (λ e. IsSetting board e dictionary) (sym same) setting) (ready before dictionary setting one filled).ready

-- a light of which the settled net has no word is dead
pub emptied_dies : (grid : Grid) (board : Board) (entries : ℕ → List Entry) (written : List (Cell × Option ℕ)) (old last : Net) (light : ℕ) → FillsEntered grid board entries written old last → IsEmptied last light
    → DiesEntered grid board entries written old light
emptied_dies grid board entries written old last light fills emptied before dictionary setting one filled =
    covered_dead board dictionary (word_stands last) (letter_stands last) light (exact_covers board dictionary (word_stands last) (letter_stands last) (fills before dictionary setting one filled).exact) emptied
