-- The bytes of a puzzle.
use Rattle.std.proofs.Common.{◌≡◌, ℕ, List, length, map, replicate, refl, ap, ◌∙◌}
use Rattle.xw_grid.specs.Light.{lights_of}
use Rattle.xw_files.specs.Puz.Reading.{Fields}
use Rattle.xw_grid.specs.Puzzle.{PuzzleShown}
use Rattle.xw_files.specs.Part.{light_clues}
use Rattle.xw_files.specs.Puz.Spelling.{file_bytes}
use Rattle.xw_files.specs.Finished.{square_byte}
use Rattle.xw_files.specs.Puz.Writing.{state_byte, circles_section, unsealed, unsealed_fields, sealed, spelled_puzzle}
use Rattle.xw_files.specs.declared.puz.header.Header.{Header}

abbrev pub fields_with : Header → List ℕ → List ℕ → List ℕ → List ℕ → List ℕ → List (List ℕ) → List ℕ → List ℕ → Fields
fields_with header solution state title author copyright clues notes rest = record {
  header = header;
  solution = solution;
  state = state;
  title = title;
  author = author;
  copyright = copyright;
  clues = clues;
  notes = notes;
  rest = rest;
}

pub unsealed-same : (puzzle : PuzzleShown) (header : Header) (solution state title author copyright notes rest : List ℕ) (clues : List (List ℕ))
    → header ≡ unsealed puzzle.grid.width puzzle.grid.height (length (lights_of puzzle.grid)) → solution ≡ map square_byte puzzle.grid.squares → state ≡ map state_byte puzzle.grid.squares
    → title ≡ puzzle.texts.title → author ≡ puzzle.texts.author → copyright ≡ puzzle.texts.copyright → clues ≡ light_clues puzzle → notes ≡ puzzle.texts.notes → rest ≡ circles_section puzzle.grid puzzle.circles
    → fields_with header solution state title author copyright clues notes rest ≡ unsealed_fields puzzle
unsealed-same puzzle header solution state title author copyright notes rest clues h s st t a c k n r = rw (h, s, st, t, a, c, k, n, r) refl

-- the bytes of a puzzle's fields, with their checksums in the header
pub spelled-is : (puzzle : PuzzleShown) (header kept : Header) (solution state title author copyright notes rest bytes : List ℕ) (clues : List (List ℕ))
    → fields_with header solution state title author copyright clues notes rest ≡ unsealed_fields puzzle
    → kept ≡ (sealed (fields_with header solution state title author copyright clues notes rest)).header
    → bytes ≡ file_bytes (fields_with kept solution state title author copyright clues notes rest) (replicate 16 0)
    → bytes ≡ spelled_puzzle puzzle
spelled-is puzzle header kept solution state title author copyright notes rest bytes clues same seal is =
    is ∙ ap (λ h. file_bytes (fields_with h solution state title author copyright clues notes rest) (replicate 16 0)) seal ∙ ap (λ f. file_bytes (sealed f) (replicate 16 0)) same
