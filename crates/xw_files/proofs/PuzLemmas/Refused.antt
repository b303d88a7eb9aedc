-- The first clue with a NUL, found light by light.
use Rattle.std.proofs.Common.{◌≡◌, ℕ, ◌+◌, ◌*◌, ◌<◌, ◌≤◌, List, ◌++◌, map, drop, sym, ap, ◌∙◌, append_assoc, Ok, Err}
use Rattle.std.specs.Prelude.{Result, Option, Some, None, flat_map, IfErr}
use Rattle.xw_grid.specs.declared.cell.Cell.{Cell}
use Rattle.xw_grid.specs.declared.cell.Direction.TheVariants.{Across, Down}
use Rattle.xw_grid.specs.declared.lights.Light.{Light}
use Rattle.xw_grid.specs.Grid.{Grid, cells, cell_at}
use Rattle.xw_grid.specs.Light.{light_from, lights_at}
use Rattle.xw_grid.specs.Clue.{ClueMap}
use Rattle.xw_files.specs.declared.fault.TextName.{TextName}
use Rattle.xw_grid.specs.Puzzle.{clue_of}
use Rattle.xw_files.specs.Puz.Writing.{clue_with_nul}
use Rattle.xw_files.proofs.CellLemmas.{cells-step, cells-end}

-- the first clue with a NUL among the clues of these lights
abbrev nul_in : ClueMap → ℕ → List Light → Option TextName
nul_in clues number lights = clue_with_nul number (map (clue_of clues) lights)

-- after the across light of a cell comes its down light
pub across-passed : (grid : Grid) (clues : ClueMap) (cell : Cell) (number next : ℕ) → ((lights : List Light) → nul_in clues number (light_from grid cell Across ++ lights) ≡ nul_in clues next lights)
    → (lights : List Light) → nul_in clues number (lights_at grid cell ++ lights) ≡ nul_in clues next (light_from grid cell Down ++ lights)
across-passed grid clues cell number next step lights =
    ap (nul_in clues number) (append_assoc (light_from grid cell Across) (light_from grid cell Down) lights) ∙ step (light_from grid cell Down ++ lights)

pub across-stopped : (grid : Grid) (clues : ClueMap) (cell : Cell) (number : ℕ) (text : TextName) → ((lights : List Light) → nul_in clues number (light_from grid cell Across ++ lights) ≡ Some text)
    → (lights : List Light) → nul_in clues number (lights_at grid cell ++ lights) ≡ Some text
across-stopped grid clues cell number text stop lights =
    ap (nul_in clues number) (append_assoc (light_from grid cell Across) (light_from grid cell Down) lights) ∙ stop (light_from grid cell Down ++ lights)

pub down-stopped : (grid : Grid) (clues : ClueMap) (cell : Cell) (number next : ℕ) (result : Result ℕ TextName) → ((lights : List Light) → nul_in clues number (light_from grid cell Across ++ lights) ≡ nul_in clues next lights)
    → IfErr result (λ text. (lights : List Light) → nul_in clues next (light_from grid cell Down ++ lights) ≡ Some text)
    → IfErr result (λ text. (lights : List Light) → nul_in clues number (lights_at grid cell ++ lights) ≡ Some text)
down-stopped grid clues cell number next (Ok after) step stop = tt
down-stopped grid clues cell number next (Err text) step stop = λ lights. across-passed grid clues cell number next step lights ∙ stop lights

-- ---- cell by cell

pub cell-passed : (grid : Grid) (clues : ClueMap) (number next i : ℕ) (cell : Cell) → i < grid.width * grid.height → cell ≡ cell_at grid i → ((lights : List Light) → nul_in clues number (lights_at grid cell ++ lights) ≡ nul_in clues next lights)
    → nul_in clues number (flat_map (lights_at grid) (drop i (cells grid))) ≡ nul_in clues next (flat_map (lights_at grid) (drop (i + 1) (cells grid)))
cell-passed grid clues number next i cell h at step =
    cells-step (λ cs. nul_in clues number (flat_map (lights_at grid) cs)) grid i h
    ∙ ap (λ c. nul_in clues number (lights_at grid c ++ flat_map (lights_at grid) (drop (i + 1) (cells grid)))) (sym at)
    ∙ step (flat_map (lights_at grid) (drop (i + 1) (cells grid)))

pub cell-stopped : (grid : Grid) (clues : ClueMap) (number i : ℕ) (cell : Cell) (text : TextName) → i < grid.width * grid.height → cell ≡ cell_at grid i → ((lights : List Light) → nul_in clues number (lights_at grid cell ++ lights) ≡ Some text)
    → nul_in clues number (flat_map (lights_at grid) (drop i (cells grid))) ≡ Some text
cell-stopped grid clues number i cell text h at stop =
    cells-step (λ cs. nul_in clues number (flat_map (lights_at grid) cs)) grid i h
    ∙ ap (λ c. nul_in clues number (lights_at grid c ++ flat_map (lights_at grid) (drop (i + 1) (cells grid)))) (sym at)
    ∙ stop (flat_map (lights_at grid) (drop (i + 1) (cells grid)))

pub cells-passed : (grid : Grid) (clues : ClueMap) (number i : ℕ) → grid.width * grid.height ≤ i → nul_in clues number (flat_map (lights_at grid) (drop i (cells grid))) ≡ None
cells-passed grid clues number i h = cells-end (λ cs. nul_in clues number (flat_map (lights_at grid) cs)) grid i h
