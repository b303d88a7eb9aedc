-- Lights that are narrowed one after another.
use Rattle.std.proofs.Common.{ℕ, List, length, sym, ◌∙◌, subst}
use Rattle.std.specs.Prelude.{Option, None}
use Rattle.xw_words.specs.Dictionary.{Entry}
use Rattle.xw_feas.specs.Board.{Board, light_at}
use Rattle.xw_net.specs.Base.{WasBase}
use Rattle.xw_net.specs.Begin.{IsNarrowedRow}
use Rattle.xw_grid.specs.declared.cell.Cell.{Cell}
use Rattle.xw_grid.specs.Grid.{Grid}
use Rattle.xw_net.specs.Entered.{IsUnchanged, IsNarrowedTo, IsNarrowedIn}
use Rattle.xw_net.specs.Spread.{bits_in}
use Rattle.xw_net.specs.declared.net.Net.{Net}

pub unchanged_after : (light : ℕ) (old mid new : Net) → IsUnchanged light old mid → IsUnchanged light mid new → IsUnchanged light old new
unchanged_after light old mid new first second = record { rows = second.rows ∙ first.rows; base = second.base ∙ first.base; flag = second.flag ∙ first.flag }

module _ (board : Board) (entries : ℕ → List Entry) (filled : Option ℕ) (light : ℕ) (old mid new : Net) where
  pub narrowed_after : IsNarrowedTo board entries filled light old mid → IsUnchanged light mid new → IsNarrowedTo board entries filled light old new
  narrowed_after is stays = record {
    base = λ was. stays.base ∙ is.base was;
    rows = subst (λ base. IsNarrowedRow None (length (light_at board light)) (bits_in old.rows.items light) base (bits_in new.rows.items light)) (sym stays.base)
        (subst (λ bits. IsNarrowedRow None (length (light_at board light)) (bits_in old.rows.items light) (bits_in mid.base.items light) bits) (sym stays.rows) is.rows);
    flag = stays.flag ∙ is.flag;
  }

  pub narrowed_from : IsUnchanged light old mid → IsNarrowedTo board entries filled light mid new → IsNarrowedTo board entries filled light old new
  narrowed_from stays is = record {
    base = λ was. is.base (subst (WasBase board entries filled light) (sym stays.base) was);
    rows = subst (λ bits. IsNarrowedRow None (length (light_at board light)) bits (bits_in new.base.items light) (bits_in new.rows.items light)) stays.rows is.rows;
    flag = is.flag;
  }

pub narrowed_in_after : (grid : Grid) (board : Board) (entries : ℕ → List Entry) (written : List (Cell × Option ℕ)) (light : ℕ) (old mid new : Net) → IsNarrowedIn grid board entries written light old mid → IsUnchanged light mid new
    → IsNarrowedIn grid board entries written light old new
narrowed_in_after grid board entries written light old mid new is stays = record { filled = is.filled; only = is.only; narrowed = narrowed_after board entries is.filled light old mid new is.narrowed stays }
