-- The properties of a session hold after every line.
use Rattle.std.proofs.Common.{◌≡◌, ℕ, ◌<◌, Bool, true, false, not, ◌&&◌, ◌||◌, List, [], ◌∷◌, ◌++◌, map, get_or, Some, None, refl, sym, ◌∙◌, ap, subst, arith}
use Rattle.std.specs.Prelude.{Option, option_map, Result, Ok, Err, nat_eq, nat_le, nat_lt, position, if◌then◌else◌, slice_get, slice_index_or}
use Rattle.std.specs.Option.{option_and_then}
use Rattle.std.proofs.lemmas.List.Folds.{list_any-append}
use Rattle.std.proofs.lemmas.Option.{slice_get_within, get_or_from_slice_get}
use Rattle.xw_letters.specs.Letter.{folded, letter_of}
use Rattle.xw_words.specs.Word.{is_bad_letter}
use Rattle.xw_words.specs.Dictionary.{Dictionary, add_answer, strike_answer, with_least}
use Rattle.xw_words.specs.declared.fault.WordFault.{WordFault}
use Rattle.xw_words.specs.declared.fault.WordFault.TheVariants as faults
use Rattle.xw_grid.specs.declared.cell.Cell.{Cell}
use Rattle.xw_grid.specs.declared.cell.Direction.{Direction}
use Rattle.xw_grid.specs.declared.cell.Direction.TheVariants.{Across, Down}
use Rattle.xw_grid.specs.declared.fault.GridFault.{GridFault}
use Rattle.xw_grid.specs.declared.fault.GridFault.TheVariants as grids
use Rattle.xw_grid.specs.declared.lights.Light.{Light}
use Rattle.xw_grid.specs.Grid.{Grid, IsGrid, is_inside, is_edge, is_barred, is_open, is_block}
use Rattle.xw_grid.specs.Edit.{blank, new_grid, with_entry, is_occupied, with_orbit, with_edges}
use Rattle.xw_grid.specs.Clue.{ClueMap, no_clues, with_clue, with_circle, is_circled}
use Rattle.xw_grid.specs.Light.{lights_of, no_light, index_named, cells_of}
use Rattle.xw_grid.proofs.OrderLemmas.{lights_are_made, made_inside}
use Rattle.xw_feas.specs.declared.edit.Refusal.{Refusal}
use Rattle.xw_feas.specs.State.{State, Action, letter_set, cell_cleared, word_placed, list_written, block_toggled, bar_toggled, symmetry_chosen, word_added, word_struck, least_chosen, after, with_grid, with_words, by_fault, with_letters, spelled_in, placed_in, then_write, write_list}
use Rattle.xw_feas.specs.WellFormed.{IsWellFormed}
use Rattle.xw_search.specs.Position.{position_of, filled_in}
use Rattle.xw_fill.specs.Search.{found, due, end}
use Rattle.xw_search.specs.declared.filling.Filling.{Filling}
use Rattle.xw_search.specs.declared.filling.Filling.TheVariants as fillings
use Rattle.xw_search.specs.NamedFill.{IsAutofilled, is_named}
use Rattle.xw_best.specs.declared.best.Best.{Best}
use Rattle.xw_best.specs.declared.best.Best.TheVariants as bests
use Rattle.xw_best.specs.Best.{IsBest}
use Rattle.xw_grid.specs.Puzzle.{TextsShown}
use Rattle.xw_commands.specs.declared.command.Command.{Command}
use Rattle.xw_commands.specs.declared.command.Command.TheVariants as commands
use Rattle.xw_commands.specs.declared.change.Change.{Change}
use Rattle.xw_commands.specs.declared.change.Change.TheVariants as changes
use Rattle.xw_commands.specs.declared.search.Search.{Search}
use Rattle.xw_commands.specs.declared.search.Search.TheVariants as searches
use Rattle.xw_commands.specs.declared.command.Field.{Field}
use Rattle.xw_commands.specs.declared.command.TextMode.{TextMode}
use Rattle.xw_commands.specs.declared.command.TextMode.TheVariants.{Instead, Behind}
use Rattle.xw_commands.specs.declared.command.CellArg.{CellArg}
use Rattle.xw_commands.specs.declared.command.TextField.{TextField}
use Rattle.xw_commands.specs.declared.command.TextField.TheVariants.{Title, Author, Copyright, Notes}
use Rattle.xw_commands.specs.declared.command.SyntaxFault.{SyntaxFault}
use Rattle.xw_lines.specs.declared.outcome.Step.{Step}
use Rattle.xw_answers.specs.declared.refusal.CommandRefusal.{CommandRefusal}
use Rattle.xw_answers.specs.declared.refusal.CommandRefusal.TheVariants as refusals
use Rattle.xw_feas.specs.declared.edit.Refusal.TheVariants as edits
use Rattle.xw_session.specs.declared.session.putting.Target.{Target}
use Rattle.xw_session.specs.declared.session.putting.Target.TheVariants as targets
use Rattle.xw_session.specs.NamedSearch.{names_of}
use Rattle.xw_session.specs.Best.{best_lines}
use Rattle.xw_session.specs.Erase.{erased_cells, emptied}
use Rattle.xw_session.specs.Answer.{IsDue, Replies, state_after, AnswersParsed}
use Rattle.xw_answers.specs.Escape.{text_spelled, has_nul}
use Rattle.xw_session.specs.State.{SessionState, with_text_in, cell_of}
use Rattle.xw_session.specs.Put.{target_of, has_target, text_of_field, text_at, with_text_at, with_piece}
use Rattle.xw_session.specs.Reply.{asked, changed, Reply, edited, shown, moved, watch_lines, with_letter, resized, with_clue_at, erased, written, circle_toggled, put, light_named, name_of_light, filling_line}
use Rattle.xw_session_laws.specs.Replay.{BarsAreOnEdges, AreFrom, AreTextsFrom, clues_of, BeganWith, SessionsBegin}
use Rattle.xw_session_laws.proofs.InOrder.{plain_at}
use Rattle.xw_session_laws.proofs.KeptInOrder.{circle_kept, clue_kept, cells_there, texts_there}
use Rattle.xw_session_laws.proofs.KeptEdges.{edges_kept, blank_edges}
use Rattle.xw_session_laws.proofs.KeptWords.{AllComeFirst, added_kept, struck_kept, limited_kept}

-- ---- an engine after an edit

-- a grid of the same size, with bars on inner edges only
pub record GridKept (grid next : Grid) : Type 0 where
  pub wide : next.width ≡ grid.width
  pub high : next.height ≡ grid.height
  pub bars : BarsAreOnEdges next

-- such a grid, and a dictionary that started with the same words
pub record PositionKept (begun : Dictionary) (engine next : State) : Type 0 where
  pub grid : GridKept engine.grid next.grid
  pub first : AllComeFirst begun next.words

-- the same size and the same bars
abbrev IsFramedAs : Grid → Grid → Type 0
IsFramedAs grid next = (next.width ≡ grid.width) × (next.height ≡ grid.height) × (next.right ≡ grid.right) × (next.below ≡ grid.below)

same_edges : (grid next : Grid) → IsFramedAs grid next → BarsAreOnEdges grid → BarsAreOnEdges next
same_edges grid next is only =
    let a : BarsAreOnEdges (record grid { below = next.below }) = subst (λ bits. BarsAreOnEdges (record grid { below = bits })) (sym is.3) only in
    let b : BarsAreOnEdges (record grid { right = next.right; below = next.below }) = subst (λ bits. BarsAreOnEdges (record grid { right = bits; below = next.below })) (sym is.2) a in
    let c : BarsAreOnEdges (record grid { height = next.height; right = next.right; below = next.below }) = subst (λ h. BarsAreOnEdges (record grid { height = h; right = next.right; below = next.below })) (sym is.1) b in
    subst (λ w. BarsAreOnEdges (record grid { width = w; height = next.height; right = next.right; below = next.below })) (sym is.0) c

framed : (grid next : Grid) → IsFramedAs grid next → BarsAreOnEdges grid → GridKept grid next
framed grid next is only = record { wide = is.0; high = is.1; bars = same_edges grid next is only }

letters_framed : (cells : List Cell) (grid : Grid) (letters : List ℕ) → IsFramedAs grid (with_letters grid cells letters)
letters_framed [] grid letters = (refl, refl, refl, refl)
letters_framed (cell ∷ cells) grid [] = (refl, refl, refl, refl)
letters_framed (cell ∷ cells) grid (letter ∷ letters) = letters_framed cells (with_entry grid cell (Some letter)) letters

list_framed : (list : List (Cell × Option ℕ)) (grid next : Grid) → write_list list grid ≡ Ok next → IsFramedAs grid next
list_framed [] grid next e =
    let same : grid ≡ next = cc in
    subst (IsFramedAs grid) same (refl, refl, refl, refl)
list_framed (written ∷ list) grid next e = by_tests (is_inside grid written.0) (is_block grid written.0) (list_framed list (with_entry grid written.0 written.1) next) e where
  by_tests : (a b : Bool) → (write_list list (with_entry grid written.0 written.1) ≡ Ok next → IsFramedAs (with_entry grid written.0 written.1) next) → then_write (write_list list) (if not a then Err grids.OutOfGrid else if b then Err grids.OnBlock else Ok (with_entry grid written.0 written.1)) ≡ Ok next → IsFramedAs grid next
  by_tests true false rest h = rest h
  by_tests true true rest h = cc
  by_tests false b rest h = cc

ok_words : (one other : Dictionary) → ◌≡◌ {A = Result Dictionary WordFault} (Ok one) (Ok other) → one ≡ other
ok_words one other e = cc

module _ (begun : Dictionary) (engine next : State) (is : IsGrid engine.grid) (only : BarsAreOnEdges engine.grid) (first : AllComeFirst begun engine.words) where
  -- an edit of the grid
  to_grid : (grid : Grid) → GridKept engine.grid grid → with_grid engine (Ok grid) ≡ Ok next → PositionKept begun engine next
  to_grid grid kept e =
      let same : record engine { grid = grid } ≡ next = cc in
      subst (PositionKept begun engine) same (record { grid = kept; first = first })

  to_words : (words : Result Dictionary WordFault) → ((made : Dictionary) → words ≡ Ok made → AllComeFirst begun made) → with_words engine words ≡ Ok next → PositionKept begun engine next
  to_words (Ok words) kept e =
      let same : record engine { words = words } ≡ next = cc in
      subst (PositionKept begun engine) same (record { grid = framed engine.grid engine.grid (refl, refl, refl, refl) only; first = kept words refl })
  to_words (Err fault) kept e = cc

  by_two : (a b : Bool) (one other : GridFault) (grid : Grid) → GridKept engine.grid grid → with_grid engine (by_fault (if not a then Err one else if b then Err other else Ok grid)) ≡ Ok next → PositionKept begun engine next
  by_two true false one other grid kept e = to_grid grid kept e
  by_two true true one other grid kept e = cc
  by_two false b one other grid kept e = cc

  by_edge : (a b : Bool) (grid : Grid) → (b ≡ true → GridKept engine.grid grid) → with_grid engine (by_fault (if not a then Err grids.OutOfGrid else if not b then Err grids.Border else Ok grid)) ≡ Ok next → PositionKept begun engine next
  by_edge true true grid kept e = to_grid grid (kept refl) e
  by_edge true false grid kept e = cc
  by_edge false b grid kept e = cc

  by_one : (a : Bool) (grid : Grid) → GridKept engine.grid grid → with_grid engine (by_fault (if a then Err grids.NotSquare else Ok grid)) ≡ Ok next → PositionKept begun engine next
  by_one false grid kept e = to_grid grid kept e
  by_one true grid kept e = cc

  by_length : (a : Bool) (one : Refusal) (grid : Grid) → GridKept engine.grid grid → with_grid engine (if a then Ok grid else Err one) ≡ Ok next → PositionKept begun engine next
  by_length true one grid kept e = to_grid grid kept e
  by_length false one grid kept e = cc

  by_spelling : (light : Light) (bad : Option ℕ) (bytes : List ℕ) → with_grid engine (spelled_in engine.grid light bad bytes) ≡ Ok next → PositionKept begun engine next
  by_spelling light (Some at) bytes e = cc
  by_spelling light None bytes e =
      by_length _ _ (with_letters engine.grid (cells_of light) (map folded bytes)) (framed engine.grid _ (letters_framed (cells_of light) engine.grid (map folded bytes)) only) e

  by_index : (index : Option ℕ) (bytes : List ℕ) → with_grid engine (placed_in engine.grid index bytes) ≡ Ok next → PositionKept begun engine next
  by_index None bytes e = cc
  by_index (Some index) bytes e = by_spelling (slice_index_or (lights_of engine.grid) index no_light) (position is_bad_letter bytes) bytes e

  by_list : (list : List (Cell × Option ℕ)) (written : Result Grid GridFault) → write_list list engine.grid ≡ written → with_grid engine (by_fault written) ≡ Ok next → PositionKept begun engine next
  by_list list (Ok grid) made e = to_grid grid (framed engine.grid grid (list_framed list engine.grid grid made) only) e
  by_list list (Err fault) made e = cc

  pub edit_kept : (action : Action) → after engine action ≡ Ok next → PositionKept begun engine next
  edit_kept (letter_set cell letter) e = by_two (is_inside engine.grid cell) (is_block engine.grid cell) grids.OutOfGrid grids.OnBlock (with_entry engine.grid cell (Some letter)) (framed engine.grid _ (refl, refl, refl, refl) only) e
  edit_kept (cell_cleared cell) e = by_two (is_inside engine.grid cell) (is_block engine.grid cell) grids.OutOfGrid grids.OnBlock (with_entry engine.grid cell None) (framed engine.grid _ (refl, refl, refl, refl) only) e
  edit_kept (word_placed name word) e = by_index (index_named (lights_of engine.grid) name) word e
  edit_kept (list_written list) e = by_list list (write_list list engine.grid) refl e
  edit_kept (block_toggled cell) e =
      by_two (is_inside engine.grid cell) (not (is_block engine.grid cell) && is_occupied engine.grid cell) grids.OutOfGrid grids.Occupied (with_orbit engine.grid cell (not (is_block engine.grid cell))) (framed engine.grid _ (refl, refl, refl, refl) only) e
  edit_kept (bar_toggled cell side) e =
      by_edge (is_inside engine.grid cell) (is_edge engine.grid cell side) (with_edges engine.grid cell side (not (is_barred engine.grid cell side)))
      (λ edge. record { wide = refl; high = refl; bars = edges_kept engine.grid cell side (not (is_barred engine.grid cell side)) is edge only }) e
  edit_kept (symmetry_chosen kind) e = by_one _ (record engine.grid { symmetry = kind }) (framed engine.grid _ (refl, refl, refl, refl) only) e
  edit_kept (word_added word grade) e = to_words _ (added_kept begun engine.words first (map folded word) grade (add_answer engine.words word)) e
  edit_kept (word_struck word) e = to_words _ (struck_kept begun engine.words first (map folded word) (strike_answer engine.words word)) e
  edit_kept (least_chosen grade) e = to_words (Ok (with_least grade engine.words)) (λ made same. subst (AllComeFirst begun) (ok_words _ made same) (limited_kept begun engine.words first grade)) e

-- ---- lights

light_starts : (grid : Grid) (index_found : Option ℕ) (light : Light) → option_and_then (slice_get (lights_of grid)) index_found ≡ Some light → is_inside grid light.start ≡ true
light_starts grid None light e = cc
light_starts grid (Some index) light e =
    let within = slice_get_within (lights_of grid) index light e in
    subst (λ (l : Light). is_inside grid l.start ≡ true) (get_or_from_slice_get (lights_of grid) index light no_light e)
    (made_inside grid (get_or (lights_of grid) index no_light) (lights_are_made grid index no_light within))

-- ---- a session after a reply

pub ok_state : (one other : Reply) → ◌≡◌ {A = Result Reply CommandRefusal} (Ok one) (Ok other) → one.state ≡ other.state
ok_state one other e = let same : one ≡ other = cc in ap (λ (reply : Reply). reply.state) same

text_kept : (texts : TextsShown) (field name : TextField) (text : List ℕ) → has_nul text ≡ false → ((name : TextField) → has_nul (text_of_field texts name) ≡ false) → has_nul (text_of_field (with_text_in texts field text) name) ≡ false
text_kept texts Title Title text plain are = plain
text_kept texts Title Author text plain are = are Author
text_kept texts Title Copyright text plain are = are Copyright
text_kept texts Title Notes text plain are = are Notes
text_kept texts Author Title text plain are = are Title
text_kept texts Author Author text plain are = plain
text_kept texts Author Copyright text plain are = are Copyright
text_kept texts Author Notes text plain are = are Notes
text_kept texts Copyright Title text plain are = are Title
text_kept texts Copyright Author text plain are = are Author
text_kept texts Copyright Copyright text plain are = plain
text_kept texts Copyright Notes text plain are = are Notes
text_kept texts Notes Title text plain are = are Title
text_kept texts Notes Author text plain are = are Author
text_kept texts Notes Copyright text plain are = are Copyright
text_kept texts Notes Notes text plain are = plain

no_clues_there : (grid : Grid) (direction : Direction) → AreTextsFrom grid 0 (clues_of no_clues direction)
no_clues_there grid Across = tt
no_clues_there grid Down = tt

size_bars : (width height : ℕ) (grid : Grid) (b : Bool) → ◌≡◌ {A = Result Grid GridFault} (if b then Ok (blank width height) else Err grids.Size) (Ok grid) → BarsAreOnEdges grid
size_bars width height grid true e = let same : blank width height ≡ grid = cc in subst BarsAreOnEdges same (blank_edges width height)
size_bars width height grid false e = cc

module _ (words : Dictionary) (state : SessionState) (is : BeganWith words state) where
  wide : 0 < state.engine.grid.width
  wide = omega (arith, is.grid.wide)

  -- ---- states that differ in one part

  with_texts : (texts : TextsShown) → ((name : TextField) → has_nul (text_of_field texts name) ≡ false) → BeganWith words (record state { texts = texts })
  with_texts texts are = record { grid = is.grid; bars = is.bars; known = is.known; least = is.least; dictionary = is.dictionary; first = is.first; begun = is.begun; texts = are; clues = is.clues; circles = is.circles }

  with_clues : (clues : ClueMap) → ((direction : Direction) → AreTextsFrom state.engine.grid 0 (clues_of clues direction)) → BeganWith words (record state { clues = clues })
  with_clues clues are = record { grid = is.grid; bars = is.bars; known = is.known; least = is.least; dictionary = is.dictionary; first = is.first; begun = is.begun; texts = is.texts; clues = are; circles = is.circles }

  with_circles : (circles : List Cell) → AreFrom state.engine.grid 0 circles → BeganWith words (record state { circles = circles })
  with_circles circles are = record { grid = is.grid; bars = is.bars; known = is.known; least = is.least; dictionary = is.dictionary; first = is.first; begun = is.begun; texts = is.texts; clues = is.clues; circles = are }

  with_watch : (is_on : Bool) → BeganWith words (record state { is_watched = is_on })
  with_watch is_on = record { grid = is.grid; bars = is.bars; known = is.known; least = is.least; dictionary = is.dictionary; first = is.first; begun = is.begun; texts = is.texts; clues = is.clues; circles = is.circles }

  with_position : (next : State) → PositionKept words state.engine next → IsWellFormed next → BeganWith words (record state { engine = next })
  with_position next kept formed = record {
    grid = formed.grid;
    bars = kept.grid.bars;
    known = is.known;
    least = is.least;
    dictionary = formed.dictionary;
    first = kept.first;
    begun = is.begun;
    texts = is.texts;
    clues = λ direction. texts_there state.engine.grid next.grid kept.grid.wide kept.grid.high (clues_of state.clues direction) 0 (is.clues direction);
    circles = cells_there state.engine.grid next.grid kept.grid.wide kept.grid.high state.circles 0 is.circles;
  }

  with_size : (grid : Grid) → BarsAreOnEdges grid → IsWellFormed (record { grid = grid; words = state.engine.words })
      → BeganWith words (record state { engine = record { grid = grid; words = state.engine.words }; clues = no_clues; circles = [] })
  with_size grid only formed = record {
    grid = formed.grid;
    bars = only;
    known = is.known;
    least = is.least;
    dictionary = is.dictionary;
    first = is.first;
    begun = is.begun;
    texts = is.texts;
    clues = no_clues_there grid;
    circles = tt;
  }

  -- ---- texts put into fields

  text_put : (target : Target) (text : List ℕ) → has_target state.engine.grid target ≡ true → has_nul text ≡ false → BeganWith words (with_text_at state target text)
  text_put (targets.Text field) text targeted plain = with_texts (with_text_in state.texts field text) (λ name. text_kept state.texts field name text plain is.texts)
  text_put (targets.Clue cell way) text targeted plain = with_clues (with_clue state.clues cell way text) (clue_kept state.engine.grid wide state.clues cell way text targeted plain is.clues)

  plain_there : (target : Target) → has_nul (text_at state target) ≡ false
  plain_there (targets.Text name) = is.texts name
  plain_there (targets.Clue cell Across) = plain_at state.engine.grid state.clues.across 0 cell (is.clues Across)
  plain_there (targets.Clue cell Down) = plain_at state.engine.grid state.clues.down 0 cell (is.clues Down)

  piece_kept : (putting : TextMode) (target : Target) (text : List ℕ) → has_target state.engine.grid target ≡ true → has_nul text ≡ false → BeganWith words (with_piece state putting target text)
  piece_kept Instead target text targeted plain = text_put target text targeted plain
  piece_kept Behind target [] targeted plain = is
  piece_kept Behind target (byte ∷ bytes) targeted plain =
      text_put target (text_at state target ++ byte ∷ bytes) targeted
      (list_any-append (nat_eq 0) (text_at state target) (byte ∷ bytes) ∙ ap (λ b. b || has_nul (byte ∷ bytes)) (plain_there target) ∙ plain)

  -- ---- replies

  module _ (reply : Reply) (formed : IsWellFormed reply.state.engine) where
    abbrev Kept : Type 0
    Kept = BeganWith words reply.state

    by_test : (b : Bool) (x y : Result Reply CommandRefusal) → (b ≡ true → x ≡ Ok reply → Kept) → (b ≡ false → y ≡ Ok reply → Kept) → (if b then x else y) ≡ Ok reply → Kept
    by_test true x y here there e = here refl e
    by_test false x y here there e = there refl e

    not_refused : (refusal : CommandRefusal) → ◌≡◌ {A = Result Reply CommandRefusal} (Err refusal) (Ok reply) → Kept
    not_refused refusal e = cc

    left_at : (one : Reply) → (IsWellFormed one.state.engine → BeganWith words one.state) → ◌≡◌ {A = Result Reply CommandRefusal} (Ok one) (Ok reply) → Kept
    left_at one kept e =
        let same = ok_state one reply e in
        subst (BeganWith words) same (kept (subst (λ (s : SessionState). IsWellFormed s.engine) (sym same) formed))

    when_shown : (lines : List ℕ) → shown state lines ≡ Ok reply → Kept
    when_shown lines e = left_at (record { lines = lines; state = state }) (λ _. is) e

    when_edited : (next : SessionState) → BeganWith words next → edited next ≡ Ok reply → Kept
    when_edited next kept e = left_at (record { lines = []; state = next }) (λ _. kept) e

    when_moved : (result : Result State Refusal) → ((next : State) → result ≡ Ok next → PositionKept words state.engine next) → moved state result ≡ Ok reply → Kept
    when_moved (Ok next) kept e = left_at (record { lines = watch_lines state next; state = record state { engine = next } }) (λ good. with_position next (kept next refl) good) e
    when_moved (Err refusal) kept e = not_refused (refusals.Engine refusal) e

    by_edit : (action : Action) → moved state (after state.engine action) ≡ Ok reply → Kept
    by_edit action e = when_moved (after state.engine action) (λ next done. edit_kept words state.engine next is.grid is.bars is.first action done) e

    by_letter : (at : CellArg) (letter : Option ℕ) → with_letter state at letter ≡ Ok reply → Kept
    by_letter at None e = not_refused (refusals.Engine (edits.Word (faults.BadLetter 1))) e
    by_letter at (Some letter) e = by_edit (letter_set (cell_of at) letter) e

    by_erase : (light_found : Option Light) → erased state light_found ≡ Ok reply → Kept
    by_erase None e = not_refused (refusals.Engine edits.NoLight) e
    by_erase (Some light) e = by_edit (list_written (emptied (erased_cells state.engine light))) e

    by_size : (result : Result Grid GridFault) → ((grid : Grid) → result ≡ Ok grid → BarsAreOnEdges grid) → resized state result ≡ Ok reply → Kept
    by_size (Ok grid) only e =
        left_at (record { lines = []; state = record state { engine = record { grid = grid; words = state.engine.words }; clues = no_clues; circles = [] } }) (λ good. with_size grid (only grid refl) good) e
    by_size (Err fault) only e = not_refused (refusals.Engine (edits.Grid fault)) e

    by_light : (light_found : Option Light) (direction : Direction) (text : List ℕ) → ((light : Light) → light_found ≡ Some light → is_inside state.engine.grid light.start ≡ true) → with_clue_at state (option_map (λ (light : Light). light.start) light_found) direction text ≡ Ok reply → Kept
    by_light None direction text starts e = not_refused (refusals.Engine edits.NoLight) e
    by_light (Some light) direction text starts e =
        by_test (has_nul text) (Err refusals.NulByte) (edited (record state { clues = with_clue state.clues light.start direction text })) (λ _ e. not_refused refusals.NulByte e)
        (λ plain e. when_edited (record state { clues = with_clue state.clues light.start direction text }) (with_clues (with_clue state.clues light.start direction text) (clue_kept state.engine.grid wide state.clues light.start direction text (starts light refl) plain is.clues)) e) e

    by_text : (field : TextField) (text : List ℕ) → written state field text ≡ Ok reply → Kept
    by_text field text e =
        by_test (has_nul text) (Err refusals.NulByte) (edited (record state { texts = with_text_in state.texts field text })) (λ _ e. not_refused refusals.NulByte e)
        (λ plain e. when_edited (record state { texts = with_text_in state.texts field text }) (with_texts (with_text_in state.texts field text) (λ name. text_kept state.texts field name text plain is.texts)) e) e

    not_not : (b : Bool) → not b ≡ false → b ≡ true
    not_not true e = refl
    not_not false e = cc

    by_circle : (cell : Cell) → circle_toggled state cell ≡ Ok reply → Kept
    by_circle cell e =
        let next : SessionState = record state { circles = with_circle state.circles cell (not (is_circled state.circles cell)) } in
        by_test (not (is_inside state.engine.grid cell)) (Err (refusals.Engine (edits.Grid grids.OutOfGrid))) (if not (is_open state.engine.grid cell) then Err (refusals.Engine (edits.Grid grids.OnBlock)) else edited next) (λ _ e. not_refused (refusals.Engine (edits.Grid grids.OutOfGrid)) e)
        (λ inside e. by_test (not (is_open state.engine.grid cell)) (Err (refusals.Engine (edits.Grid grids.OnBlock))) (edited next) (λ _ e. not_refused (refusals.Engine (edits.Grid grids.OnBlock)) e)
        (λ _ e. when_edited next (with_circles (with_circle state.circles cell (not (is_circled state.circles cell))) (circle_kept state.engine.grid wide cell state.circles (not (is_circled state.circles cell)) (not_not (is_inside state.engine.grid cell) inside) is.circles)) e) e) e

    by_fill : (past there : Bool) (limit filled none : List ℕ) (entries : List (Option ℕ))
        → (if past then shown state limit else if there then Ok (record { lines = filled; state = record state { engine = filled_in state.engine entries } }) else shown state none) ≡ Ok reply → Kept
    by_fill true there limit filled none entries e = when_shown limit e
    by_fill false true limit filled none entries e =
        left_at (record { lines = filled; state = record state { engine = filled_in state.engine entries } })
        (λ good. with_position (filled_in state.engine entries) (record { grid = framed state.engine.grid _ (refl, refl, refl, refl) is.bars; first = is.first }) good) e
    by_fill false false limit filled none entries e = when_shown none e

    -- the reply has these lines and a state with this engine
    abbrev Tells : List ℕ → State → Type 0
    Tells lines engine = reply ≡ record { lines = lines; state = record state { engine = engine } }

    by_told : (lines : List ℕ) (engine next : State) → Tells lines engine → engine ≡ next
        → ◌≡◌ {A = Result Reply CommandRefusal} (Ok (record { lines = lines; state = record state { engine = next } })) (Ok reply)
    by_told lines engine next is same = ap Ok (ap (λ (p : State). record { lines = lines; state = record state { engine = p } }) (sym same) ∙ sym is)

    by_entered : (lines : List ℕ) (engine : State) (entries : List (Option ℕ)) → Tells lines engine → engine ≡ filled_in state.engine entries → Kept
    by_entered lines engine entries told same =
        left_at (record { lines = lines; state = record state { engine = filled_in state.engine entries } })
        (λ good. with_position (filled_in state.engine entries) (record { grid = framed state.engine.grid _ (refl, refl, refl, refl) is.bars; first = is.first }) good) (by_told lines engine (filled_in state.engine entries) told same)

    by_none : (lines : List ℕ) (engine : State) → Tells lines engine → engine ≡ state.engine → Kept
    by_none lines engine told same = when_shown lines (by_told lines engine state.engine told same)

    by_end : (named : ℕ → Bool) (filling : Filling) (engine : State) → Tells (filling_line filling) engine → IsAutofilled named state.engine engine filling → Kept
    by_end named fillings.Filled engine told (entries, fill, same) = by_entered _ engine entries told same
    by_end named fillings.NoFill engine told (none, same) = by_none _ engine told same
    by_end named fillings.Limit engine told same = by_none _ engine told same

    by_best : (named : ℕ → Bool) (best : Best) (engine : State) → Tells (best_lines best) engine → IsBest named state.engine engine best → Kept
    by_best named (bests.Filled least bound) engine told (filled, proved) = by_entered _ engine filled.entries told filled.holds
    by_best named bests.NoFill engine told (none, same) = by_none _ engine told same
    by_best named (bests.Limit bound) engine told (above, proved, same) = by_none _ engine told same

    by_answer : (answer : Result (List ℕ) CommandRefusal) → ◌≡◌ {A = Result Reply CommandRefusal} (Ok reply) (asked state answer) → Kept
    by_answer (Ok lines) e = when_shown lines (sym e)
    by_answer (Err refusal) e = not_refused refusal (sym e)

    by_put : (putting : TextMode) (field : Field) (spelling : Option (List ℕ)) → put state putting field spelling ≡ Ok reply → Kept
    by_put putting field None e = not_refused refusals.Escape e
    by_put putting field (Some text) e =
        let target = target_of field in
        let next : Result Reply CommandRefusal = edited (with_piece state putting target text) in
        by_test (not (has_target state.engine.grid target)) (Err (refusals.Engine (edits.Grid grids.OutOfGrid))) (if has_nul text then Err refusals.NulByte else next) (λ _ e. not_refused (refusals.Engine (edits.Grid grids.OutOfGrid)) e)
        (λ targeted e. by_test (has_nul text) (Err refusals.NulByte) next (λ _ e. not_refused refusals.NulByte e)
        (λ plain e. when_edited (with_piece state putting target text) (piece_kept putting target text (not_not (has_target state.engine.grid target) targeted) plain) e) e) e

    change_kept : (change : Change) → changed state change ≡ Ok reply → Kept
    change_kept (changes.Size width height) e = by_size (new_grid width height) (λ grid made. size_bars width height grid ((nat_le 1 width && nat_le width 255) && (nat_le 1 height && nat_le height 255)) made) e
    change_kept (changes.Symmetry kind) e = by_edit (symmetry_chosen kind) e
    change_kept (changes.Add word grade) e = by_edit (word_added word grade) e
    change_kept (changes.Strike word) e = by_edit (word_struck word) e
    change_kept (changes.Least grade) e = by_edit (least_chosen grade) e
    change_kept (changes.Set at letter) e = by_letter at (letter_of letter) e
    change_kept (changes.Clear at) e = by_edit (cell_cleared (cell_of at)) e
    change_kept (changes.Place named word) e = by_edit (word_placed (name_of_light named) word) e
    change_kept (changes.Erase named) e = by_erase (light_named state.engine.grid named) e
    change_kept (changes.Block at) e = by_edit (block_toggled (cell_of at)) e
    change_kept (changes.Bar at side) e = by_edit (bar_toggled (cell_of at) side) e
    change_kept (changes.Clue named text) e =
        by_light (light_named state.engine.grid named) named.direction text (λ light is_found. light_starts state.engine.grid (index_named (lights_of state.engine.grid) (name_of_light named)) light is_found) e
    change_kept (changes.Write field text) e = by_text field text e
    change_kept (changes.Circle at) e = by_circle (cell_of at) e
    change_kept (changes.Watch is_on) e = when_edited (record state { is_watched = is_on }) (with_watch is_on) e
    change_kept (changes.Put putting field spelling) e = by_put putting field (text_spelled spelling) e

    search_kept : (search : Search) → IsDue state (commands.Search search) (Ok reply) → Kept
    search_kept (searches.Fill limit) e =
        by_fill (nat_lt limit (due (position_of state.engine))) (found (position_of state.engine)) (filling_line fillings.Limit) (filling_line fillings.Filled) (filling_line fillings.NoFill)
        (end (position_of state.engine)).board.entries e
    search_kept (searches.Autofill limit seed lights) e = by_end (is_named state.engine (names_of lights)) e.end e.engine e.is e.done
    search_kept (searches.Best limit seed lights) e = by_best (is_named state.engine (names_of lights)) e.end e.engine e.is e.done

    pub reply_kept : (command : Command) → IsDue state command (Ok reply) → Kept
    reply_kept (commands.Ask query) (answer, is, same) = by_answer answer same
    reply_kept (commands.Change change) e = change_kept change e
    reply_kept (commands.Search search) e = search_kept search e

  -- ---- answers

  module _ (next : SessionState) (formed : IsWellFormed next.engine) where
    after_reply : (command : Command) (reply : Result Reply CommandRefusal) → Replies state command reply → next ≡ state_after state reply → BeganWith words next
    after_reply command (Ok reply) (due, owed, fits) same =
        subst (BeganWith words) (sym same) (reply_kept reply (subst (λ (s : SessionState). IsWellFormed s.engine) same formed) command (subst (IsDue state command) fits owed))
    after_reply command (Err refusal) fits same = subst (BeganWith words) (sym same) is

    pub answer_kept : (parsed : Result (Option Command) SyntaxFault) (outcome : Step) (answer : List ℕ) → AnswersParsed state parsed outcome answer next → BeganWith words next
    answer_kept (Ok None) outcome answer said = subst (BeganWith words) (sym said.2) is
    answer_kept (Ok (Some command)) outcome answer said = after_reply command said.0 said.1 said.4
    answer_kept (Err fault) outcome answer said = subst (BeganWith words) (sym said.2) is

-- ---- a session at its start

no_text : (name : TextField) → has_nul (text_of_field (record { title = []; author = []; copyright = []; notes = [] }) name) ≡ false
no_text Title = refl
no_text Author = refl
no_text Copyright = refl
no_text Notes = refl

pub session_begun : SessionsBegin
session_begun engine formed only fresh = record {
  grid = formed.grid;
  bars = only;
  known = formed.dictionary;
  least = fresh.least;
  dictionary = formed.dictionary;
  first = fresh.first;
  begun = refl;
  texts = no_text;
  clues = no_clues_there engine.grid;
  circles = tt;
}
