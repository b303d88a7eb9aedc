-- What an accepted command leaves: by its effect, and always a grid.
use Rattle.std.proofs.Common.{◌≡◌, ℕ, zero, suc, Bool, true, false, not, ◌&&◌, List, [], ◌∷◌, ◌++◌, map, get_or, Some, None, refl, sym, ◌∙◌, ap, subst, inl, inr}
use Rattle.std.specs.Prelude.{Option, Result, Ok, Err, ◌⊎◌, nat_le, nat_lt, if◌then◌else◌}
use Rattle.xw_letters.specs.Letter.{IsLetter, letter_of}
use Rattle.xw_words.specs.Dictionary.{with_least}
use Rattle.xw_words.specs.declared.fault.WordFault.TheVariants as faults
use Rattle.xw_grid.specs.declared.cell.Cell.{Cell}
use Rattle.xw_grid.specs.declared.cell.Direction.{Direction}
use Rattle.xw_grid.specs.declared.cell.Square.{Square}
use Rattle.xw_grid.specs.declared.cell.Square.TheVariants as squares
use Rattle.xw_grid.specs.declared.fault.GridFault.{GridFault}
use Rattle.xw_grid.specs.declared.fault.GridFault.TheVariants as grids
use Rattle.xw_grid.specs.declared.lights.Light.{Light}
use Rattle.xw_grid.specs.Grid.{Grid, IsGrid, IsSquare, is_inside, is_open, letter_in}
use Rattle.xw_grid.specs.Edit.{blank, new_grid}
use Rattle.xw_grid.specs.Clue.{no_clues, with_clue, with_circle, is_circled}
use Rattle.xw_grid.specs.Light.{lights_of, index_named}
use Rattle.xw_feas.specs.Board.{board_of, square_entry}
use Rattle.xw_feas.specs.declared.edit.Refusal.{Refusal}
use Rattle.xw_feas.specs.State.{State, letter_set, cell_cleared, word_placed, list_written, block_toggled, bar_toggled, symmetry_chosen, word_added, word_struck, least_chosen, after}
use Rattle.xw_feas.specs.WellFormed.{HasLetterEntries}
use Rattle.xw_feas.proofs.FormedLemmas.{laid_out}
use Rattle.xw_search.specs.Position.{position_of, filled_in}
use Rattle.xw_fill.specs.Search.{unentered_count, found, due, end}
use Rattle.xw_search.proofs.Shaped.{shaped}
use Rattle.xw_fill.proofs.FillLemmas.{found_is_fill, reached-start}
use Rattle.xw_search.specs.declared.filling.Filling.{Filling}
use Rattle.xw_search.specs.declared.filling.Filling.TheVariants as fillings
use Rattle.xw_search.specs.NamedFill.{IsAutofilled, is_named}
use Rattle.xw_best.specs.declared.best.Best.{Best}
use Rattle.xw_best.specs.declared.best.Best.TheVariants as bests
use Rattle.xw_best.specs.Best.{IsBest}
use Rattle.xw_commands.specs.declared.command.Command.{Command}
use Rattle.xw_commands.specs.declared.command.Command.TheVariants as commands
use Rattle.xw_commands.specs.declared.change.Change.{Change}
use Rattle.xw_commands.specs.declared.change.Change.TheVariants as changes
use Rattle.xw_commands.specs.declared.search.Search.{Search}
use Rattle.xw_commands.specs.declared.search.Search.TheVariants as searches
use Rattle.xw_commands.specs.declared.command.CellArg.{CellArg}
use Rattle.xw_commands.specs.declared.command.Field.{Field}
use Rattle.xw_commands.specs.declared.command.TextField.{TextField}
use Rattle.xw_commands.specs.declared.command.TextMode.{TextMode}
use Rattle.xw_answers.specs.declared.refusal.CommandRefusal.{CommandRefusal}
use Rattle.xw_answers.specs.declared.refusal.CommandRefusal.TheVariants as refusals
use Rattle.xw_feas.specs.declared.edit.Refusal.TheVariants as edits
use Rattle.xw_session.specs.declared.session.putting.Target.{Target}
use Rattle.xw_session.specs.declared.session.putting.Target.TheVariants as targets
use Rattle.xw_commands.specs.declared.command.TextMode.TheVariants.{Instead, Behind}
use Rattle.xw_session.specs.NamedSearch.{names_of}
use Rattle.xw_session.specs.Erase.{erased_cells, emptied}
use Rattle.xw_session.specs.Answer.{IsDue}
use Rattle.xw_answers.specs.Escape.{text_spelled, has_nul}
use Rattle.xw_session.specs.State.{SessionState, with_text_in, cell_of}
use Rattle.xw_session.specs.Put.{target_of, has_target, text_at, with_text_at, with_piece}
use Rattle.xw_session.specs.Reply.{Reply, asked, changed, edited, shown, moved, watch_lines, with_letter, resized, with_clue_at, erased, written, circle_toggled, put, light_named, start_named, name_of_light, filling_line}
use Rattle.xw_session_laws.proofs.SessionKept.{ok_state}
use Rattle.xw_session_laws.proofs.GridsKept.{blank_good, letter_good, with_words_good, with_letter_good, with_word_good, emptied_good, with_orbit_good, with_bar_good, with_symmetry_good, square_good, filled_good}

-- ---- a search

-- the entries of an engine
abbrev pub entries_of : State → List (Option ℕ)
entries_of engine = (position_of engine).board.entries

-- the search entered letters, and every letter that was there stays
pub record IsSearched (engine next : State) : Type 0 where
  pub entries : List (Option ℕ)
  pub letters : (cell letter : ℕ) → get_or entries cell None ≡ Some letter → IsLetter letter
  pub kept : (cell letter : ℕ) → get_or (entries_of engine) cell None ≡ Some letter → get_or entries cell None ≡ Some letter
  pub is : next ≡ filled_in engine entries

entry_here : (xs : List Square) (cell : ℕ) → get_or (map square_entry xs) cell None ≡ letter_in (Some (get_or xs cell squares.Block))
entry_here [] cell = refl
entry_here (x ∷ xs) zero = refl
entry_here (x ∷ xs) (suc cell) = entry_here xs cell

pub letter_entries : (grid : Grid) → IsGrid grid → HasLetterEntries (board_of grid)
unfolding board_of
letter_entries grid is cell letter at =
    by_square (get_or grid.squares cell squares.Block) (square_good grid.squares cell is.letters) (sym (entry_here grid.squares cell) ∙ at) where
      by_square : (square : Square) → IsSquare square → letter_in (Some square) ≡ Some letter → IsLetter letter
      by_square squares.Block good e = cc
      by_square (squares.Open None) good e = cc
      by_square (squares.Open (Some other)) good e = let same : other ≡ letter = cc in subst IsLetter same good

end_is_fill : (engine : State) → IsGrid engine.grid → found (position_of engine) ≡ true → IsSearched engine (filled_in engine (end (position_of engine)).board.entries)
end_is_fill engine is there =
    let laid = laid_out engine.grid is (letter_entries engine.grid is) in
    let done = found_is_fill (unentered_count (position_of engine)) (position_of engine) (entries_of engine) (shaped (position_of engine).board laid) (reached-start (position_of engine) laid.letters) there in
    record {
      entries = done.0;
      letters = done.2.letters;
      kept = done.2.kept;
      is = ap (λ board. filled_in engine board.board.entries) done.1;
    }

-- ---- what a reply leaves, by its command

-- a query leaves the state as it was, a change leaves its own, and a search may enter letters
abbrev pub HasEffect : SessionState → Command → Reply → Type 0
HasEffect state (commands.Ask query) reply = reply.state ≡ state
HasEffect state (commands.Change change) reply = changed state change ≡ Ok reply
HasEffect state (commands.Search search) reply = (reply.state ≡ state) ⊎ ((next : State) × (reply.state ≡ record state { engine = next }) × IsSearched state.engine next)

module _ (state : SessionState) (is : IsGrid state.engine.grid) (reply : Reply) where
  by_test : (P : Type 0) (b : Bool) (x y : Result Reply CommandRefusal) → (x ≡ Ok reply → P) → (b ≡ false → y ≡ Ok reply → P) → (if b then x else y) ≡ Ok reply → P
  by_test P true x y here there e = here e
  by_test P false x y here there e = there refl e

  refused_not : (P : Type 0) (refusal : CommandRefusal) → ◌≡◌ {A = Result Reply CommandRefusal} (Err refusal) (Ok reply) → P
  refused_not P refusal e = cc

  -- ---- queries

  abbrev Stays : Type 0
  Stays = reply.state ≡ state

  when_shown : (lines : List ℕ) → shown state lines ≡ Ok reply → Stays
  when_shown lines e = sym (ok_state (record { lines = lines; state = state }) reply e)

  of_answer : (answer : Result (List ℕ) CommandRefusal) → ◌≡◌ {A = Result Reply CommandRefusal} (Ok reply) (asked state answer) → Stays
  of_answer (Ok lines) e = when_shown lines (sym e)
  of_answer (Err refusal) e = refused_not Stays refusal (sym e)

  -- ---- searches

  abbrev Searched : Type 0
  Searched = (reply.state ≡ state) ⊎ ((next : State) × (reply.state ≡ record state { engine = next }) × IsSearched state.engine next)

  by_fill : (past there : Bool) (limit filled none : List ℕ) → found (position_of state.engine) ≡ there
      → (if past then shown state limit else if there then Ok (record { lines = filled; state = record state { engine = filled_in state.engine (end (position_of state.engine)).board.entries } }) else shown state none) ≡ Ok reply → Searched
  by_fill true there limit filled none is_found e = inl (when_shown limit e)
  by_fill false true limit filled none is_found e =
      let next = filled_in state.engine (end (position_of state.engine)).board.entries in
      inr (next, sym (ok_state (record { lines = filled; state = record state { engine = next } }) reply e), end_is_fill state.engine is is_found)
  by_fill false false limit filled none is_found e = inl (when_shown none e)

  by_end : (named : ℕ → Bool) (filling : Filling) (engine : State) → reply.state ≡ record state { engine = engine } → IsAutofilled named state.engine engine filling → Searched
  by_end named fillings.Filled engine told (entries, fill, same) = inr (engine, told, record { entries = entries; letters = fill.letters; kept = fill.kept; is = same })
  by_end named fillings.NoFill engine told (none, same) = inl (told ∙ ap (λ (p : State). record state { engine = p }) same)
  by_end named fillings.Limit engine told same = inl (told ∙ ap (λ (p : State). record state { engine = p }) same)

  by_best : (named : ℕ → Bool) (best : Best) (engine : State) → reply.state ≡ record state { engine = engine } → IsBest named state.engine engine best → Searched
  by_best named (bests.Filled least bound) engine told (filled, proved) = inr (engine, told, record { entries = filled.entries; letters = filled.fill.letters; kept = filled.fill.kept; is = filled.holds })
  by_best named bests.NoFill engine told (none, same) = inl (told ∙ ap (λ (p : State). record state { engine = p }) same)
  by_best named (bests.Limit bound) engine told (above, proved, same) = inl (told ∙ ap (λ (p : State). record state { engine = p }) same)

  searched_so : (search : Search) → IsDue state (commands.Search search) (Ok reply) → Searched
  searched_so (searches.Fill limit) e =
      by_fill (nat_lt limit (due (position_of state.engine))) (found (position_of state.engine)) (filling_line fillings.Limit) (filling_line fillings.Filled) (filling_line fillings.NoFill) refl e
  searched_so (searches.Autofill limit seed lights) e = by_end (is_named state.engine (names_of lights)) e.end e.engine (ap (λ (reply : Reply). reply.state) e.is) e.done
  searched_so (searches.Best limit seed lights) e = by_best (is_named state.engine (names_of lights)) e.end e.engine (ap (λ (reply : Reply). reply.state) e.is) e.done

  -- ---- all commands

  pub effected : (command : Command) → IsDue state command (Ok reply) → HasEffect state command reply
  effected (commands.Ask query) (answer, is_answer, same) = of_answer answer same
  effected (commands.Change change) e = e
  effected (commands.Search search) e = searched_so search e

  -- ---- the grid after a reply

  abbrev Good : Type 0
  Good = IsGrid reply.state.engine.grid

  good_at : (one : Reply) → ◌≡◌ {A = Result Reply CommandRefusal} (Ok one) (Ok reply) → IsGrid one.state.engine.grid → Good
  good_at one e good = subst (λ (s : SessionState). IsGrid s.engine.grid) (ok_state one reply e) good

  good_quiet : Stays → Good
  good_quiet same = subst (λ (s : SessionState). IsGrid s.engine.grid) (sym same) is

  good_searched : Searched → Good
  good_searched (inl same) = good_quiet same
  good_searched (inr (next, told, done)) =
      let filled : IsGrid next.grid = subst (λ (p : State). IsGrid p.grid) (sym done.is) (filled_good state.engine done.entries is done.letters) in
      subst (λ (s : SessionState). IsGrid s.engine.grid) (sym told) filled

  good_edited : (next : SessionState) → IsGrid next.engine.grid → edited next ≡ Ok reply → Good
  good_edited next good e = good_at (record { lines = []; state = next }) e good

  good_moved : (result : Result State Refusal) → ((next : State) → result ≡ Ok next → IsGrid next.grid) → moved state result ≡ Ok reply → Good
  good_moved (Ok next) good e = good_at (record { lines = watch_lines state next; state = record state { engine = next } }) e (good next refl)
  good_moved (Err refusal) good e = refused_not Good (refusals.Engine refusal) e

  good_letter : (at : CellArg) (letter : ℕ) (found : Option ℕ) → letter_of letter ≡ found → with_letter state at found ≡ Ok reply → Good
  good_letter at letter None is_found e = refused_not Good (refusals.Engine (edits.Word (faults.BadLetter 1))) e
  good_letter at letter (Some capital) is_found e =
      good_moved (after state.engine (letter_set (cell_of at) capital)) (λ next. with_letter_good state.engine next is (cell_of at) (Some capital) (letter_good letter capital is_found)) e

  good_erased : (light : Option Light) → erased state light ≡ Ok reply → Good
  good_erased None e = refused_not Good (refusals.Engine edits.NoLight) e
  good_erased (Some light) e =
      good_moved (after state.engine (list_written (emptied (erased_cells state.engine light)))) (λ next. emptied_good state.engine next is (erased_cells state.engine light)) e

  good_size : (result : Result Grid GridFault) → ((grid : Grid) → result ≡ Ok grid → IsGrid grid) → resized state result ≡ Ok reply → Good
  good_size (Ok grid) good e =
      good_at (record { lines = []; state = record state { engine = record { grid = grid; words = state.engine.words }; clues = no_clues; circles = [] } }) e (good grid refl)
  good_size (Err fault) good e = refused_not Good (refusals.Engine (edits.Grid fault)) e

  good_clue : (start : Option Cell) (direction : Direction) (text : List ℕ) → with_clue_at state start direction text ≡ Ok reply → Good
  good_clue None direction text e = refused_not Good (refusals.Engine edits.NoLight) e
  good_clue (Some start) direction text e =
      by_test Good (has_nul text) (Err refusals.NulByte) (edited (record state { clues = with_clue state.clues start direction text })) (refused_not Good refusals.NulByte)
      (λ _. good_edited (record state { clues = with_clue state.clues start direction text }) is) e

  good_text : (field : TextField) (text : List ℕ) → written state field text ≡ Ok reply → Good
  good_text field text e =
      by_test Good (has_nul text) (Err refusals.NulByte) (edited (record state { texts = with_text_in state.texts field text })) (refused_not Good refusals.NulByte)
      (λ _. good_edited (record state { texts = with_text_in state.texts field text }) is) e

  good_circle : (cell : Cell) → circle_toggled state cell ≡ Ok reply → Good
  good_circle cell e =
      let next : SessionState = record state { circles = with_circle state.circles cell (not (is_circled state.circles cell)) } in
      by_test Good (not (is_inside state.engine.grid cell)) (Err (refusals.Engine (edits.Grid grids.OutOfGrid))) (if not (is_open state.engine.grid cell) then Err (refusals.Engine (edits.Grid grids.OnBlock)) else edited next) (refused_not Good (refusals.Engine (edits.Grid grids.OutOfGrid)))
      (λ _. by_test Good (not (is_open state.engine.grid cell)) (Err (refusals.Engine (edits.Grid grids.OnBlock))) (edited next) (refused_not Good (refusals.Engine (edits.Grid grids.OnBlock))) (λ _. good_edited next is)) e

  good_target : (target : Target) (text : List ℕ) → IsGrid (with_text_at state target text).engine.grid
  good_target (targets.Text name) text = is
  good_target (targets.Clue cell direction) text = is

  good_piece : (putting : TextMode) (target : Target) (text : List ℕ) → IsGrid (with_piece state putting target text).engine.grid
  good_piece Instead target text = good_target target text
  good_piece Behind target [] = is
  good_piece Behind target (byte ∷ bytes) = good_target target (text_at state target ++ byte ∷ bytes)

  good_put : (putting : TextMode) (field : Field) (spelling : Option (List ℕ)) → put state putting field spelling ≡ Ok reply → Good
  good_put putting field None e = refused_not Good refusals.Escape e
  good_put putting field (Some text) e =
      let next : Result Reply CommandRefusal = edited (with_piece state putting (target_of field) text) in
      by_test Good (not (has_target state.engine.grid (target_of field))) (Err (refusals.Engine (edits.Grid grids.OutOfGrid))) (if has_nul text then Err refusals.NulByte else next) (refused_not Good (refusals.Engine (edits.Grid grids.OutOfGrid)))
      (λ _. by_test Good (has_nul text) (Err refusals.NulByte) next (refused_not Good refusals.NulByte) (λ _. good_edited (with_piece state putting (target_of field) text) (good_piece putting (target_of field) text))) e

  size_good : (width height : ℕ) (grid : Grid) → new_grid width height ≡ Ok grid → IsGrid grid
  size_good width height grid e =
      elim ((nat_le 1 width && nat_le width 255) && (nat_le 1 height && nat_le height 255)) as (λ b. (nat_le 1 width && nat_le width 255) && (nat_le 1 height && nat_le height 255) ≡ b → ◌≡◌ {A = Result Grid GridFault} (if b then Ok (blank width height) else Err grids.Size) (Ok grid) → IsGrid grid) [
        | true ↦ λ sizes e. let same : blank width height ≡ grid = cc in subst IsGrid same (blank_good width height sizes)
        | false ↦ λ sizes e. cc
      ] refl e

  grid_changed : (change : Change) → changed state change ≡ Ok reply → Good
  grid_changed (changes.Size width height) e = good_size (new_grid width height) (size_good width height) e
  grid_changed (changes.Symmetry kind) e = good_moved (after state.engine (symmetry_chosen kind)) (λ next. with_symmetry_good state.engine next is kind) e
  grid_changed (changes.Add word grade) e = good_moved (after state.engine (word_added word grade)) (λ next. with_words_good state.engine next is _) e
  grid_changed (changes.Strike word) e = good_moved (after state.engine (word_struck word)) (λ next. with_words_good state.engine next is _) e
  grid_changed (changes.Least grade) e = good_moved (after state.engine (least_chosen grade)) (λ next. with_words_good state.engine next is (Ok (with_least grade state.engine.words))) e
  grid_changed (changes.Set at letter) e = good_letter at letter (letter_of letter) refl e
  grid_changed (changes.Clear at) e = good_moved (after state.engine (cell_cleared (cell_of at))) (λ next. with_letter_good state.engine next is (cell_of at) None tt) e
  grid_changed (changes.Place named word) e =
      good_moved (after state.engine (word_placed (name_of_light named) word)) (λ next. with_word_good state.engine next is (index_named (lights_of state.engine.grid) (name_of_light named)) word) e
  grid_changed (changes.Erase named) e = good_erased (light_named state.engine.grid named) e
  grid_changed (changes.Block at) e = good_moved (after state.engine (block_toggled (cell_of at))) (λ next. with_orbit_good state.engine next is (cell_of at)) e
  grid_changed (changes.Bar at side) e = good_moved (after state.engine (bar_toggled (cell_of at) side)) (λ next. with_bar_good state.engine next is (cell_of at) side) e
  grid_changed (changes.Clue named text) e = good_clue (start_named state.engine.grid named) named.direction text e
  grid_changed (changes.Write field text) e = good_text field text e
  grid_changed (changes.Circle at) e = good_circle (cell_of at) e
  grid_changed (changes.Watch is_on) e = good_edited (record state { is_watched = is_on }) is e
  grid_changed (changes.Put putting field spelling) e = good_put putting field (text_spelled spelling) e

  -- the grid stays a grid
  pub grid_left : (command : Command) → IsDue state command (Ok reply) → Good
  grid_left (commands.Ask query) e = good_quiet (effected (commands.Ask query) e)
  grid_left (commands.Change change) e = grid_changed change e
  grid_left (commands.Search search) e = good_searched (searched_so search e)
