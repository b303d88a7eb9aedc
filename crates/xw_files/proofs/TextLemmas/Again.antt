-- The tags and texts that a text file spells are read back.
use Rattle.std.proofs.Common.{◌≡◌, ℕ, ◌+◌, true, false, List, [], ◌∷◌, ◌++◌, length, Option, Some, None, Ok, map, refl, sym, ap, ◌∙◌, arith}
use Rattle.std.specs.Prelude.{position}
use Rattle.std.specs.List.{flat_map, AllByRecursion}
use Rattle.std.proofs.lemmas.Bool.{cond-true, cond-false, eq-eqb}
use Rattle.xw_text.proofs.Position.{position_is_none}
use Rattle.xw_grid.specs.declared.cell.Cell.{Cell}
use Rattle.xw_grid.specs.declared.cell.Direction.{Direction}
use Rattle.xw_grid.specs.Clue.{ClueMap, with_clue}
use Rattle.xw_files.specs.declared.fault.Tag.{Tag}
use Rattle.xw_files.specs.declared.fault.ReadFault.{ReadFault}
use Rattle.xw_files.specs.Text.Tag.{header, names}
use Rattle.xw_files.specs.Steps.{◌>>=◌}
use Rattle.xw_files.specs.Text.Shape.{Lines, header_at, tag_at, plain_at, text_at, size_at, sides_of, is_bad_square, square_of, row_at, rows_at, with_clues, clues_at, notes_at}
use Rattle.xw_files.specs.Text.Relation.{IsTag, IsPlain, AreText, IsRow, AreNotes}
use Rattle.xw_files.proofs.TextLemmas.Clues.{clue_next_is, clues_done_is}
use Rattle.xw_files.proofs.TextLemmas.Alls.{all_at}

pub header_again : (line : List ℕ) (rest : Lines) → names line header ≡ true → header_at (line ∷ rest) ≡ Ok rest
unfolding header_at
header_again line rest is = cond-true _ _ _ is

pub tag_again : (tag : Tag) (line : List ℕ) (rest : Lines) → IsTag tag line → tag_at tag (line ∷ rest) ≡ Ok rest
unfolding tag_at
tag_again tag line rest is = cond-true _ _ _ is

pub plain_again : (line : List ℕ) (rest : Lines) → IsPlain line → plain_at (line ∷ rest) ≡ (Some line, rest)
plain_again line rest plain = cond-false _ _ _ plain

-- the next line is a tag line, or no line is left
abbrev pub Stops : Lines → Type 0
Stops rest = plain_at rest ≡ (None, rest)

pub text_again : (tag : Tag) (text : List ℕ) (lines rest : Lines) → AreText tag text lines → Stops rest → (tag_at tag (lines ++ rest) >>= text_at) ≡ Ok (text, rest)
unfolding tag_at text_at
text_again tag text [] rest there stops = absurd there
text_again tag text (first ∷ []) rest there stops = rw (there.0, stops, there.1) refl
text_again tag text (first ∷ second ∷ []) rest there stops = rw (there.0, plain_again second rest there.1, there.2) refl
text_again tag text (first ∷ second ∷ third ∷ more) rest there stops = absurd there

pub size_again : (line : List ℕ) (rest : Lines) (width height : ℕ) → IsPlain line → sides_of line ≡ Some (width, height) → size_at (line ∷ rest) ≡ Ok ((width, height), rest)
unfolding size_at
size_again line rest width height plain is = rw (plain_again line rest plain, is) refl

pub row_again : (width row : ℕ) (line : List ℕ) (rest : Lines) → IsRow width line → row_at width row (line ∷ rest) ≡ Ok (map square_of line, rest)
unfolding row_at
row_again width row line rest is =
    let none : position is_bad_square line ≡ None = position_is_none is_bad_square line 0 (λ k lt. all_at (λ byte. is_bad_square byte ≡ false) line is.good k 0 lt) in
    rw (plain_again line rest is.plain, eq-eqb (length line) width is.wide, none) refl

pub rows_again : (width row : ℕ) (lines rest : Lines) → AllByRecursion (IsRow width) lines → rows_at width row (length lines) (lines ++ rest) ≡ Ok (flat_map (map square_of) lines, rest)
unfolding rows_at
rows_again width row [] rest are = refl
rows_again width row (line ∷ lines) rest are = rw (row_again width row line (lines ++ rest) are.0, rows_again width (row + 1) lines rest are.1) refl

pub clues_again : (fault : ReadFault) (direction : Direction) (starts : List Cell) (texts rest : Lines) (clues : ClueMap) → length texts ≡ length starts → AllByRecursion IsPlain texts → Stops rest
    → clues_at fault direction starts clues (texts ++ rest) ≡ Ok (with_clues direction starts texts clues, rest)
clues_again fault direction [] [] rest clues same plain stops = clues_done_is fault direction clues rest (ap (λ (p : Option (List ℕ) × Lines). p.0) stops)
clues_again fault direction [] (text ∷ texts) rest clues same plain stops = absurd (omega arith)
clues_again fault direction (start ∷ starts) [] rest clues same plain stops = absurd (omega arith)
clues_again fault direction (start ∷ starts) (text ∷ texts) rest clues same plain stops =
    clue_next_is fault direction start starts clues text (texts ++ rest) plain.0 ∙ clues_again fault direction starts texts rest (with_clue clues start direction text) (omega arith) plain.1 stops

pub notes_again : (notes : List ℕ) (lines : Lines) → AreNotes notes lines → notes_at lines ≡ Ok notes
unfolding notes_at
notes_again notes [] there = ap (λ (n : List ℕ). Ok n) (sym there)
notes_again notes (line ∷ lines) there = rw there.0 (ap (λ (n : List ℕ). Ok n) (sym there.1))
