-- A session opened on a puzzle.
use Rattle.std.proofs.Common.{◌≡◌, ℕ, zero, suc, true, false, List, [], ◌∷◌, map, filter, get_or, replicate, refl, sym, ◌∙◌, ap, subst, inl, inr, arith}
use Rattle.std.specs.List.{AllByRecursion}
use Rattle.std.proofs.lemmas.Bool.{cases_lt}
use Rattle.std.proofs.lemmas.List.{get_or_past, get_or-map, length-map}
use Rattle.std.proofs.lemmas.List.Elements.{recursion_from_All}
use Rattle.std.proofs.lemmas.List.FromFn.{get_or-map-range_with_len, length-map-range_with_len}
use Rattle.xw_words.specs.Dictionary.{Dictionary, Entry, no_entry, no_words, entry_at}
use Rattle.xw_words.specs.WordList.{Scored, known, has_length, entries_among, listed}
use Rattle.xw_grid.specs.declared.cell.Direction.{Direction}
use Rattle.xw_grid.specs.declared.cell.Direction.TheVariants.{Across, Down}
use Rattle.xw_grid.specs.declared.cell.Square.{Square}
use Rattle.xw_grid.specs.declared.lights.Light.{Light}
use Rattle.xw_grid.specs.Grid.{Grid, is_inside}
use Rattle.xw_grid.specs.Edit.{grid_of}
use Rattle.xw_grid.specs.Clue.{no_clues}
use Rattle.xw_grid.specs.Light.{lights_of}
use Rattle.xw_grid.proofs.OrderLemmas.{IsMade, lights_are_made, made_inside}
use Rattle.xw_feas.specs.WellFormed.{IsWellFormed}
use Rattle.xw_grid.specs.Puzzle.{PuzzleShown}
use Rattle.xw_commands.specs.declared.command.TextField.{TextField}
use Rattle.xw_session.specs.Put.{text_of_field}
use Rattle.xw_answers.specs.Escape.{has_nul}
use Rattle.xw_session_laws.specs.Replay.{BarsAreOnEdges, AreFrom, AreTextsFrom, clues_of, fresh, ComeFirst, IsFresh, BeganWith, opened_on}
use Rattle.xw_session_laws.proofs.KeptEdges.{blank_edges}

-- the properties that a session takes from a puzzle
pub record IsKept (puzzle : PuzzleShown) : Type 0 where
  pub bars : BarsAreOnEdges puzzle.grid
  pub texts : (name : TextField) → has_nul (text_of_field puzzle.texts name) ≡ false
  pub clues : (direction : Direction) → AreTextsFrom puzzle.grid 0 (clues_of puzzle.clues direction)
  pub circles : AreFrom puzzle.grid 0 puzzle.circles

pub session_on : (words : Dictionary) (puzzle : PuzzleShown) → IsKept puzzle → IsWellFormed (opened_on words puzzle).engine → IsFresh words → BeganWith words (opened_on words puzzle)
session_on words puzzle kept formed is = record {
  grid = formed.grid;
  bars = kept.bars;
  known = formed.dictionary;
  least = is.least;
  dictionary = formed.dictionary;
  first = is.first;
  begun = refl;
  texts = kept.texts;
  clues = kept.clues;
  circles = kept.circles;
}

-- a grid built from squares has no bars
pub made_edges : (width height : ℕ) (squares : List Square) → BarsAreOnEdges (grid_of width height squares)
made_edges width height squares = blank_edges width height

pub no_clues_kept : (grid : Grid) (direction : Direction) → AreTextsFrom grid 0 (clues_of no_clues direction)
no_clues_kept grid Across = tt
no_clues_kept grid Down = tt

-- all lights start inside the grid
abbrev pub BeginInside : Grid → List Light → Type 0
BeginInside grid lights = AllByRecursion (λ light. is_inside grid light.start ≡ true) lights

made_all_inside : (grid : Grid) (lights : List Light) → AllByRecursion (IsMade grid) lights → BeginInside grid lights
made_all_inside grid [] made = tt
made_all_inside grid (light ∷ lights) made = (made_inside grid light made.0, made_all_inside grid lights made.1)

pub lights_begin_inside : (grid : Grid) → BeginInside grid (lights_of grid)
lights_begin_inside grid = made_all_inside grid (lights_of grid) (recursion_from_All (IsMade grid) (lights_of grid) (lights_are_made grid))

-- ---- the words of a new dictionary, and of a word list

no_score : Scored
no_score = record { word = []; score = 0 }

no_row : (count index : ℕ) → get_or {A = List Entry} (replicate count []) index [] ≡ []
no_row zero index = refl
no_row (suc count) zero = refl
no_row (suc count) (suc index) = no_row count index

none_first : ComeFirst [] []
none_first = record { few = omega arith; since = λ index within. absurd (omega (arith, within)) }

pub none_known : IsFresh no_words
none_known = record { least = refl; first = λ count. subst (λ entries. ComeFirst entries entries) (sym (no_row 256 count)) none_first }

all_known : (words : List Scored) → ComeFirst (map known words) (map known words)
all_known words = record {
  few = omega arith;
  since = λ index within.
      let one = entry_at (map known words) index in
      let at : one ≡ known (get_or words index no_score) = get_or-map known words index no_score no_entry (omega (arith, within, length-map words known)) in
      (at ∙ ap (λ (entry : Entry). fresh entry.word entry.grade) (sym at), λ _. refl);
}

pub words_listed : (words : List Scored) → IsFresh (listed words)
words_listed words = record {
  least = refl;
  first = λ count.
      elim (cases_lt count 256) [
        | inl few ↦
            subst (λ entries. ComeFirst entries entries) (sym (get_or-map-range_with_len (entries_among words) 0 256 count count [] few (omega arith))) (all_known (filter (has_length count) words))
        | inr many ↦
            subst (λ entries. ComeFirst entries entries) (sym (get_or_past (listed words).rows count [] (omega (arith, many, length-map-range_with_len (entries_among words) 0 256)))) none_first
      ];
}
