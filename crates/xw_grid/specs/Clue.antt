-- Clues by the start cell and direction of their light, and circled cells.
use Rattle.std.specs.Prelude.{ℕ, Bool, true, false, not, List, [], ◌∷◌, filter}
use Rattle.std.specs.List.{list_any}
use Rattle.std.specs.Option.{unwrap_or}
use Rattle.std.specs.Map.{lookup}
use Rattle.std.specs.BTreeMap.{insert_entry}
use Rattle.std.specs.BTreeSet.{insert_key}
use Rattle.xw_grid.specs.declared.cell.Cell.{Cell}
use Rattle.xw_grid.specs.declared.cell.Direction.{Direction}
use Rattle.xw_grid.specs.declared.cell.Direction.TheVariants.{Across, Down}
use Rattle.xw_grid.specs.Grid.{same_cell, cell_cmp}

-- a map from cells to texts, in reading order
abbrev pub Texts : Type 0
Texts = List (Cell × List ℕ)

-- the text of a cell; empty if there is none
abbrev pub text_at : Texts → Cell → List ℕ
text_at texts cell = unwrap_or (lookup (same_cell cell) texts) []

-- the map after a text was set; an empty text removes the entry
abbrev pub with_text : Texts → Cell → List ℕ → Texts
with_text texts cell [] = filter (λ entry. not (same_cell cell entry.0)) texts
with_text texts cell (byte ∷ bytes) = insert_entry cell_cmp texts cell (byte ∷ bytes)

-- the clues of the lights across, and of those down
pub record ClueMap : Type 0 where
  pub across : Texts
  pub down : Texts

-- no clues
abbrev pub no_clues : ClueMap
no_clues = record { across = []; down = [] }

-- the clue at a cell and direction; empty if there is none
abbrev pub clue_at : ClueMap → Cell → Direction → List ℕ
clue_at clues cell Across = text_at clues.across cell
clue_at clues cell Down = text_at clues.down cell

-- the clues after the clue at a cell and direction was set
abbrev pub with_clue : ClueMap → Cell → Direction → List ℕ → ClueMap
with_clue clues cell Across text = record clues { across = with_text clues.across cell text }
with_clue clues cell Down text = record clues { down = with_text clues.down cell text }

-- whether a cell is circled
abbrev pub is_circled : List Cell → Cell → Bool
is_circled circles cell = list_any (same_cell cell) circles

-- the circled cells, in reading order, after a circle was added or removed
abbrev pub with_circle : List Cell → Cell → Bool → List Cell
with_circle circles cell true = insert_key cell_cmp circles cell
with_circle circles cell false = filter (λ other. not (same_cell cell other)) circles
