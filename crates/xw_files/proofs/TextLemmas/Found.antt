-- The bytes are a text file of the puzzle that is read.
use Rattle.std.proofs.Common.{◌≡◌, ℕ, Bool, true, false, List, [], ◌∷◌, ◌++◌, length, Option, Some, None, Result, Ok, Err, map, refl, sym, ap, subst, ◌∙◌}
use Rattle.std.specs.Prelude.{position, filter, IfOk}
use Rattle.std.specs.List.{flat_map, AllByRecursion}
use Rattle.std.proofs.Math.Bool.{and-false}
use Rattle.xw_text.proofs.Position.{position-None}
use Rattle.xw_grid.specs.declared.cell.Cell.{Cell}
use Rattle.xw_grid.specs.declared.cell.Square.{Square}
use Rattle.xw_grid.specs.declared.cell.Direction.TheVariants.{Across, Down}
use Rattle.xw_grid.specs.Grid.{Grid, cells, is_open}
use Rattle.xw_grid.specs.Clue.{ClueMap, no_clues}
use Rattle.xw_files.specs.declared.fault.Tag.TheVariants as tags
use Rattle.xw_files.specs.declared.fault.ReadFault.{ReadFault}
use Rattle.xw_files.specs.declared.fault.ReadFault.TheVariants as faults
use Rattle.xw_grid.specs.declared.puzzle.Puzzle.{Puzzle}
use Rattle.xw_files.specs.Text.Lines.{text_lines}
use Rattle.xw_files.specs.Text.Tag.{header, names}
use Rattle.xw_grid.specs.Puzzle.{PuzzleShown, TextsShown, puzzle_view}
use Rattle.xw_files.specs.Part.{is_circled_open, circled_cells}
use Rattle.xw_files.specs.Text.Starts.{starts}
use Rattle.xw_grid.specs.Edit.{grid_of}
use Rattle.xw_files.specs.Steps.{GivesOrLacksMemory}
use Rattle.xw_files.specs.Text.Shape.{Lines, header_at, tag_at, text_at, texts_at, size_at, sides_of, rows_at, square_of, grid_at, with_clues, clues_at, both_clues_at, notes_at, shape, shaped, is_nul, all_of}
use Rattle.xw_files.specs.Finished.{has_bar}
use Rattle.xw_files.specs.Text.Written.{clue_texts}
use Rattle.xw_files.specs.Text.Relation.{IsTag, IsPlain, AreText, AreNotes, IsRow, IsSizeLine, Spells, IsText, IsBare}
use Rattle.xw_files.proofs.StepLemmas.{bind_ok, ok_is}
use Rattle.xw_files.proofs.TextLemmas.Round.{clues_read, clues_read_across, clues_read_down}
use Rattle.xw_files.proofs.TextLemmas.Sizes.{sides_line}
use Rattle.xw_files.proofs.PlainLights.{no_bar_made}
use Rattle.xw_files.proofs.TextLemmas.Takes.{header_takes, tag_takes, text_takes, size_takes, rows_take, clues_take, notes_takes}
use Rattle.xw_files.proofs.TextLemmas.Alls.{all_from}

-- title, author and copyright were read
pub record TakesTexts (lines rest : Lines) (texts : TextsShown) : Type 0 where
  pub title : Lines
  pub author : Lines
  pub copyright : Lines
  pub parts : lines ≡ title ++ (author ++ (copyright ++ rest))
  pub is_title : AreText tags.Title texts.title title
  pub is_author : AreText tags.Author texts.author author
  pub is_copyright : AreText tags.Copyright texts.copyright copyright

texts_take : (lines rest : Lines) (texts : TextsShown) → texts_at lines ≡ Ok (texts, rest) → TakesTexts lines rest texts
unfolding texts_at
texts_take lines rest texts e =
    let a = bind_ok (tag_at tags.Title lines) _ (texts, rest) e in
    let title = bind_ok (text_at a.0) _ (texts, rest) a.2 in
    let b = bind_ok (tag_at tags.Author title.0.1) _ (texts, rest) title.2 in
    let author = bind_ok (text_at b.0) _ (texts, rest) b.2 in
    let c = bind_ok (tag_at tags.Copyright author.0.1) _ (texts, rest) author.2 in
    let copyright = bind_ok (text_at c.0) _ (texts, rest) c.2 in
    let both = ok_is _ (texts, rest) copyright.2 in
    let texts_are = ap (λ (p : TextsShown × Lines). p.0) both in
    let rest_is = ap (λ (p : TextsShown × Lines). p.1) both in
    let first = text_takes tags.Title lines a.0 title.0.1 title.0.0 a.1 title.1 in
    let second = text_takes tags.Author title.0.1 b.0 author.0.1 author.0.0 b.1 author.1 in
    let third = text_takes tags.Copyright author.0.1 c.0 copyright.0.1 copyright.0.0 c.1 copyright.1 in
    record {
      title = first.0;
      author = second.0;
      copyright = third.0;
      parts = first.1 ∙ ap (λ (t : Lines). first.0 ++ t) (second.1 ∙ ap (λ (t : Lines). second.0 ++ t) (third.1 ∙ ap (λ (t : Lines). third.0 ++ t) rest_is));
      is_title = subst (λ (t : TextsShown). AreText tags.Title t.title first.0) texts_are first.2;
      is_author = subst (λ (t : TextsShown). AreText tags.Author t.author second.0) texts_are second.2;
      is_copyright = subst (λ (t : TextsShown). AreText tags.Copyright t.copyright third.0) texts_are third.2;
    }

-- the size and the rows were read
pub record TakesGrid (lines rest : Lines) (width height : ℕ) (squares : List Square) : Type 0 where
  pub size_tag : List ℕ
  pub size_line : List ℕ
  pub grid_tag : List ℕ
  pub rows : Lines
  pub parts : lines ≡ size_tag ∷ size_line ∷ grid_tag ∷ (rows ++ rest)
  pub size_tagged : IsTag tags.Size size_tag
  pub size_plain : IsPlain size_line
  pub size : sides_of size_line ≡ Some (width, height)
  pub grid_tagged : IsTag tags.Grid grid_tag
  pub are : AllByRecursion (IsRow width) rows
  pub many : length rows ≡ height
  pub meaning : squares ≡ flat_map (map square_of) rows

grid_take : (lines rest : Lines) (grid : Grid) → grid_at lines ≡ Ok (grid, rest) → (width : ℕ) × (height : ℕ) × (squares : List Square) × (grid_of width height squares ≡ grid) × TakesGrid lines rest width height squares
unfolding grid_at
grid_take lines rest grid e =
    let a = bind_ok (tag_at tags.Size lines) _ (grid, rest) e in
    let size = bind_ok (size_at a.0) _ (grid, rest) a.2 in
    let b = bind_ok (tag_at tags.Grid size.0.1) _ (grid, rest) size.2 in
    let rows = bind_ok (rows_at size.0.0.0 1 size.0.0.1 b.0) _ (grid, rest) b.2 in
    let both = ok_is _ (grid, rest) rows.2 in
    let first = tag_takes tags.Size lines a.0 a.1 in
    let second = size_takes a.0 size.0.1 size.0.0 size.1 in
    let third = tag_takes tags.Grid size.0.1 b.0 b.1 in
    let fourth = rows_take size.0.0.0 1 size.0.0.1 b.0 rows.0.1 rows.0.0 rows.1 in (
      size.0.0.0,
      size.0.0.1,
      rows.0.0,
      ap (λ (p : Grid × Lines). p.0) both,
      record {
        size_tag = first.0;
        size_line = second.0;
        grid_tag = third.0;
        rows = fourth.rows;
        parts = first.1 ∙ ap (λ (t : Lines). first.0 ∷ t) (second.1 ∙ ap (λ (t : Lines). second.0 ∷ t) (third.1 ∙ ap (λ (t : Lines). third.0 ∷ t) (fourth.parts ∙ ap (λ (t : Lines). fourth.rows ++ t) (ap (λ (p : Grid × Lines). p.1) both))));
        size_tagged = first.2;
        size_plain = second.2;
        size = second.3;
        grid_tagged = third.2;
        are = fourth.are;
        many = fourth.many;
        meaning = fourth.meaning;
      },
    )

-- the clues of both directions were read
pub record TakesBoth (grid : Grid) (lines rest : Lines) (clues : ClueMap) : Type 0 where
  pub across_tag : List ℕ
  pub across : Lines
  pub down_tag : List ℕ
  pub down : Lines
  pub parts : lines ≡ across_tag ∷ (across ++ (down_tag ∷ (down ++ rest)))
  pub across_tagged : IsTag tags.Across across_tag
  pub across_plain : AllByRecursion IsPlain across
  pub many_across : length across ≡ length (starts grid Across)
  pub down_tagged : IsTag tags.Down down_tag
  pub down_plain : AllByRecursion IsPlain down
  pub many_down : length down ≡ length (starts grid Down)
  pub meaning : clues ≡ clues_read grid across down

both_take : (grid : Grid) (lines rest : Lines) (clues : ClueMap) → both_clues_at grid lines ≡ Ok (clues, rest) → TakesBoth grid lines rest clues
unfolding both_clues_at
both_take grid lines rest clues e =
    let a = bind_ok (tag_at tags.Across lines) _ (clues, rest) e in
    let across = bind_ok (clues_at faults.AcrossCount Across (starts grid Across) no_clues a.0) _ (clues, rest) a.2 in
    let b = bind_ok (tag_at tags.Down across.0.1) _ (clues, rest) across.2 in
    let first = tag_takes tags.Across lines a.0 a.1 in
    let second = clues_take faults.AcrossCount Across (starts grid Across) no_clues across.0.0 a.0 across.0.1 across.1 in
    let third = tag_takes tags.Down across.0.1 b.0 b.1 in
    let fourth = clues_take faults.DownCount Down (starts grid Down) across.0.0 clues b.0 rest b.2 in
    record {
      across_tag = first.0;
      across = second.texts;
      down_tag = third.0;
      down = fourth.texts;
      parts = first.1 ∙ ap (λ (t : Lines). first.0 ∷ t) (second.parts ∙ ap (λ (t : Lines). second.texts ++ t) (third.1 ∙ ap (λ (t : Lines). third.0 ∷ t) fourth.parts));
      across_tagged = first.2;
      across_plain = second.plain;
      many_across = second.many;
      down_tagged = third.2;
      down_plain = fourth.plain;
      many_down = fourth.many;
      meaning = fourth.meaning ∙ ap (λ (c : ClueMap). with_clues Down (starts grid Down) fourth.texts c) second.meaning;
    }

-- these parts, one after another, are the lines of a text file
made_of : (lines after below last : Lines) (first : List ℕ) (texts : TextsShown) (grid : Grid) (clues : ClueMap) (notes : List ℕ) (width height : ℕ) (squares : List Square)
    → lines ≡ first ∷ after → names first header ≡ true → TakesTexts after below texts → grid_of width height squares ≡ grid → (middle : Lines) → TakesGrid below middle width height squares → TakesBoth grid middle last clues → AreNotes notes last
    → Spells lines (record { grid = grid; texts = record texts { notes = notes }; clues = clues; circles = [] })
made_of lines after below last first texts grid clues notes width height squares start header_first top same middle rows both end =
    let across_is : both.across ≡ clue_texts Across clues grid = sym (clues_read_across grid both.across both.down both.many_across) ∙ ap (λ (c : ClueMap). clue_texts Across c grid) (sym both.meaning) in
    let down_is : both.down ≡ clue_texts Down clues grid = sym (clues_read_down grid both.across both.down both.many_down) ∙ ap (λ (c : ClueMap). clue_texts Down c grid) (sym both.meaning) in
    let clue_parts : middle ≡ both.across_tag ∷ (clue_texts Across clues grid ++ (both.down_tag ∷ (clue_texts Down clues grid ++ last))) =
    both.parts ∙ ap (λ (t : Lines). both.across_tag ∷ (t ++ (both.down_tag ∷ (both.down ++ last)))) across_is ∙ ap (λ (t : Lines). both.across_tag ∷ (clue_texts Across clues grid ++ (both.down_tag ∷ (t ++ last)))) down_is in
    let grid_parts : below ≡ rows.size_tag ∷ rows.size_line ∷ rows.grid_tag ∷ (rows.rows ++ (both.across_tag ∷ (clue_texts Across clues grid ++ (both.down_tag ∷ (clue_texts Down clues grid ++ last))))) =
    rows.parts ∙ ap (λ (t : Lines). rows.size_tag ∷ rows.size_line ∷ rows.grid_tag ∷ (rows.rows ++ t)) clue_parts in
    record {
      first = first;
      title = top.title;
      author = top.author;
      copyright = top.copyright;
      size_tag = rows.size_tag;
      size_line = rows.size_line;
      grid_tag = rows.grid_tag;
      rows = rows.rows;
      across_tag = both.across_tag;
      down_tag = both.down_tag;
      notes = last;
      parts = start ∙ ap (λ (t : Lines). first ∷ t) (top.parts ∙ ap (λ (t : Lines). top.title ++ (top.author ++ (top.copyright ++ t))) grid_parts);
      header_first = header_first;
      title_there = top.is_title;
      author_there = top.is_author;
      copyright_there = top.is_copyright;
      size_tagged = rows.size_tagged;
      size_plain = rows.size_plain;
      size = subst (λ (g : Grid). IsSizeLine g.width g.height rows.size_line) same (sides_line rows.size_line width height rows.size);
      grid_tagged = rows.grid_tagged;
      row_lines = subst (λ (g : Grid). AllByRecursion (IsRow g.width) rows.rows) same rows.are;
      row_count = rows.many ∙ ap (λ (g : Grid). g.height) same;
      squares = ap (λ (g : Grid). g.squares) (sym same) ∙ rows.meaning;
      across_tagged = both.across_tagged;
      across_plain = subst (λ (t : Lines). AllByRecursion IsPlain t) across_is both.across_plain;
      down_tagged = both.down_tagged;
      down_plain = subst (λ (t : Lines). AllByRecursion IsPlain t) down_is both.down_plain;
      notes_there = end;
    }

pub shape_takes : (lines : Lines) (puzzle : PuzzleShown) → shape lines ≡ Ok puzzle → Spells lines puzzle × (has_bar puzzle.grid ≡ false) × IsBare puzzle
unfolding shape
shape_takes lines puzzle e =
    let a = bind_ok (header_at lines) _ puzzle e in
    let texts = bind_ok (texts_at a.0) _ puzzle a.2 in
    let grid = bind_ok (grid_at texts.0.1) _ puzzle texts.2 in
    let clues = bind_ok (both_clues_at grid.0.0 grid.0.1) _ puzzle grid.2 in
    let notes = bind_ok (notes_at clues.0.1) _ puzzle clues.2 in
    let first = header_takes lines a.0 a.1 in
    let rows = grid_take texts.0.1 grid.0.1 grid.0.0 grid.1 in
    let made : PuzzleShown = record { grid = grid.0.0; texts = record texts.0.0 { notes = notes.0 }; clues = clues.0.0; circles = [] } in
    subst (λ (p : PuzzleShown). Spells lines p × (has_bar p.grid ≡ false) × IsBare p) (ok_is made puzzle notes.2) (
      made_of lines a.0 texts.0.1 clues.0.1 first.0 texts.0.0 grid.0.0 clues.0.0 notes.0 rows.0 rows.1 rows.2 first.1 first.2 (texts_take a.0 texts.0.1 texts.0.0 texts.1) rows.3 grid.0.1 rows.4
          (both_take grid.0.0 grid.0.1 clues.0.1 clues.0.0 clues.1) (notes_takes clues.0.1 notes.0 notes.1),
      subst (λ (g : Grid). has_bar g ≡ false) rows.3 (no_bar_made rows.0 rows.1 rows.2),
      (ap (λ (g : Grid). g.symmetry) (sym rows.3), refl),
    )

shaped_is : (offset : Option ℕ) (bytes : List ℕ) (puzzle : PuzzleShown) → shaped offset bytes ≡ Ok puzzle → (offset ≡ None) × (shape (text_lines bytes) ≡ Ok puzzle)
shaped_is None bytes puzzle e = (refl, e)
shaped_is (Some offset) bytes puzzle e = absurd cc

none_found : (p : Cell → Bool) → ((c : Cell) → p c ≡ false) → (cs : List Cell) → filter p cs ≡ []
none_found p fails [] = refl
none_found p fails (c ∷ cs) = rw (fails c) (none_found p fails cs)

pub none_circled : (puzzle : PuzzleShown) → puzzle.circles ≡ [] → circled_cells puzzle ≡ []
none_circled puzzle none =
    ap (λ (circles : List Cell). circled_cells (record puzzle { circles = circles })) none
    ∙ none_found (is_circled_open puzzle.grid []) (λ c. and-false (is_open puzzle.grid c)) (cells puzzle.grid)

pub all_takes : (bytes : List ℕ) (puzzle : PuzzleShown) → all_of bytes ≡ Ok puzzle → IsText bytes puzzle × IsBare puzzle
unfolding all_of
all_takes bytes puzzle e =
    let parts = shaped_is (position is_nul bytes) bytes puzzle e in
    let spelled = shape_takes (text_lines bytes) puzzle parts.1 in
    (record { no_nul = all_from (λ byte. is_nul byte ≡ false) bytes (position-None is_nul bytes parts.0); lines = spelled.0; no_bar = spelled.1; no_circle = none_circled puzzle spelled.2.1 }, spelled.2)

pub is_found : (bytes : List ℕ) (result : Result Puzzle ReadFault) → GivesOrLacksMemory puzzle_view result (all_of bytes) → IfOk result (λ read. IsText bytes (puzzle_view read))
is_found bytes (Ok read) given = (all_takes bytes (puzzle_view read) given).0
is_found bytes (Err fault) given = tt

pub is_bare : (bytes : List ℕ) (result : Result Puzzle ReadFault) → GivesOrLacksMemory puzzle_view result (all_of bytes) → IfOk result (λ read. IsBare (puzzle_view read))
is_bare bytes (Ok read) given = (all_takes bytes (puzzle_view read) given).1
is_bare bytes (Err fault) given = tt
