-- The answers of an engine are those of the replies.
use Rattle.std.proofs.Common.{◌≡◌, ℕ, Bool, true, false, not, ◌≤◌, ◌<◌, List, [], ap, sym, ◌∙◌, refl, inl, inr, arith}
use Rattle.std.proofs.lemmas.Bool.Decides.{nat_tests}
use Rattle.std.specs.Prelude.{Option, flat_map, length, map, option_map, Some, None, Result, Ok, Err, IsOk, IfOk, IfErr, OnErr, if◌then◌else◌, nat_lt}
use Rattle.xw_letters.specs.LetterSet.{letters_in}
use Rattle.xw_grid.specs.declared.cell.Cell.{Cell}
use Rattle.xw_grid.specs.Grid.{is_inside, is_block, index_of, cell_at}
use Rattle.xw_feas.specs.Board.{board_of}
use Rattle.xw_feas.specs.State.{State, Action, after}
use Rattle.xw_feas.specs.Feasible.{Answers, AreAnswers}
use Rattle.xw_feas.specs.Changes.{letters_of, changes, cells_that_differ}
use Rattle.xw_feas.specs.Engine.{IsEdited}
use Rattle.xw_feas.specs.Queries.{cell_judged, on_light, words_of}
use Rattle.xw_feas.specs.declared.edit.Refusal.{Refusal}
use Rattle.xw_feas.specs.declared.edit.Refusal.TheVariants as edits
use Rattle.xw_grid.specs.declared.fault.GridFault.TheVariants as grids
use Rattle.xw_feas.specs.declared.changed.Changed.{Changed}
use Rattle.xw_search.specs.declared.filling.Filling.{Filling}
use Rattle.xw_search.specs.declared.filling.Filling.TheVariants as fillings
use Rattle.xw_search.specs.Position.{position_of}
use Rattle.xw_fill.specs.Search.{due, found}
use Rattle.xw_fill.specs.Filling.{IsFilling}
use Rattle.xw_search.specs.FeasibleLetters.{feasible_letters}
use Rattle.xw_search.specs.FeasibleWords.{feasible_words}
use Rattle.xw_search.proofs.FeasibleWordsLemmas.{answered_words}
use Rattle.xw_search.proofs.FeasibleLettersLemmas.{answered_letters}
use Rattle.xw_answers.specs.declared.refusal.CommandRefusal.{CommandRefusal}
use Rattle.xw_answers.specs.declared.refusal.CommandRefusal.TheVariants as refusals
use Rattle.xw_session.specs.State.{SessionState}
use Rattle.xw_answers.specs.Text.{change_line}
use Rattle.xw_session.specs.Reply.{Reply, filling_line, changes_between, moved, want_of_action, on_open, fill_tried, grid_memory}
use Rattle.xw_session.specs.Answer.{IsReply, lines_reply, state_after, watched_lines}

abbrev pub Knows : State → Answers → Type 0
Knows engine answers = AreAnswers (board_of engine.grid) engine.words answers

-- the letters that an engine answers are the feasible ones
letters_are : (engine : State) (answers : Answers) → Knows engine answers → letters_of answers ≡ feasible_letters (position_of engine)
letters_are engine answers exact = λ i. λ cell. answered_letters (position_of engine) answers exact cell i

changes_are : (before now : State) (a b : Answers) → Knows before a → Knows now b → changes now.grid a b ≡ changes_between before now
changes_are before now a b exact_before exact_now =
    ap (λ (letters : ℕ → List ℕ). map (λ index. (cell_at now.grid index, letters_of b index)) (cells_that_differ now.grid letters (letters_of b) 0)) (letters_are before a exact_before)
    ∙ ap (λ (letters : ℕ → List ℕ). map (λ index. (cell_at now.grid index, letters index)) (cells_that_differ now.grid (feasible_letters (position_of before)) letters 0)) (letters_are now b exact_now)

may_move : (state : SessionState) (r : Result State Refusal) → IsOk r → IsOk (moved state r)
may_move state (Ok engine) is = is
may_move state (Err refusal) is = is

module _ (state : SessionState) (now : State) (a b : Answers) (action : Action) (known : Knows state.engine a) (known_now : Knows now b) where
  -- an edit of the engine gives an allowed reply
  pub edit_fits : (result : Result Changed Refusal) → IsEdited state.engine a action result now b
      → IsReply (moved state (after state.engine action)) (want_of_action state action) (lines_reply (watched_lines state.is_watched) result (record state { engine = now }))
  edit_fits (Ok changed) edited =
      ap (moved state) edited.state
      ∙ ap (λ lines. Ok (record { lines = if state.is_watched then flat_map change_line lines else []; state = record state { engine = now } })) (sym (changes_are state.engine now a b known known_now) ∙ sym edited.changes)
  edit_fits (Err refusal) edited =
      elim edited.rule [
        | inl is ↦ inl (ap (moved state) is)
        | inr wants ↦ inr (may_move state (after state.engine action) wants.0, ap (option_map refusals.Engine) wants.1)
      ]

pub edit_effect : (state : SessionState) (now : State) (a b : Answers) (action : Action) (result : Result Changed Refusal) → IsEdited state.engine a action result now b
    → record state { engine = now } ≡ state_after state (lines_reply (watched_lines state.is_watched) result (record state { engine = now }))
edit_effect state now a b action (Ok changed) edited = refl
edit_effect state now a b action (Err refusal) edited = ap (λ (p : State). record state { engine = p }) edited.state

-- the engine is as it was, or is the one that the reply has
pub lines_effect : {T : Type 0} (lines : T → List ℕ) (state : SessionState) (now : State) (result : Result T Refusal) → OnErr result (now ≡ state.engine) → record state { engine = now } ≡ state_after state (lines_reply lines result (record state { engine = now }))
lines_effect lines state now (Ok given) same = refl
lines_effect lines state now (Err refusal) same = ap (λ (p : State). record state { engine = p }) same

-- ---- letters of a cell

judged : (is_in blocks : Bool) (good letters lines : List ℕ) → (if not is_in then Err (edits.Grid grids.OutOfGrid) else if blocks then Err (edits.Grid grids.OnBlock) else Ok good) ≡ Ok letters
    → ((if not is_in then Err (refusals.Engine (edits.Grid grids.OutOfGrid)) else if blocks then Err (refusals.Engine (edits.Grid grids.OnBlock)) else Ok lines) ≡ Ok lines) × (good ≡ letters)
judged true false good letters lines is = (refl, cc)
judged true true good letters lines is = cc
judged false blocks good letters lines is = cc

-- a cell for which an engine has letters is open
pub open_letters : (engine : State) (answers : Answers) (cell : Cell) (set : ℕ) → Knows engine answers → cell_judged engine.grid cell (letters_of answers (index_of engine.grid cell)) ≡ Ok (letters_in set)
    → ((lines : List ℕ) → on_open engine.grid cell lines ≡ Ok lines) × (letters_in set ≡ feasible_letters (position_of engine) (index_of engine.grid cell))
open_letters engine answers cell set exact is =
    let found = λ (lines : List ℕ). judged (is_inside engine.grid cell) (is_block engine.grid cell) (letters_of answers (index_of engine.grid cell)) (letters_in set) lines is in
    (λ lines. (found lines).0, sym (found []).1 ∙ answered_letters (position_of engine) answers exact (index_of engine.grid cell))

-- ---- words of a light

pub counted : (engine : State) (answers : Answers) (at : Option ℕ) (count : ℕ) (words : List (List ℕ)) → Knows engine answers
    → Ok count ≡ on_light (λ light. length (words_of answers light)) at → Ok words ≡ on_light (words_of answers) at
    → (light : ℕ) × (at ≡ Some light) × (count ≡ length (feasible_words (position_of engine) light)) × (words ≡ feasible_words (position_of engine) light)
counted engine answers None count words exact counts is = cc
counted engine answers (Some light) count words exact counts is =
    let same = answered_words (position_of engine) answers exact light in
    let number : count ≡ length (words_of answers light) = cc in
    let all : words ≡ words_of answers light = cc in
    (light, refl, number ∙ ap length same, all ∙ same)

-- ---- fills

abbrev one_of : Bool → Bool → Reply → Reply → Reply → Result Reply CommandRefusal
one_of past there a b c = if past then Ok a else if there then Ok b else Ok c

fills : (past there : Bool) (a b c : Reply) → IsOk (one_of past there a b c)
fills true there a b c = refl
fills false true a b c = refl
fills false false a b c = refl

within : (limit n : ℕ) → n ≤ limit → nat_lt limit n ≡ false
within limit n h = grind (arith, nat_tests, h)

past : (limit n : ℕ) → limit < n → nat_lt limit n ≡ true
past limit n h = grind (arith, nat_tests, h)

-- a search for a fill gives an allowed reply
pub fill_fits : (state : SessionState) (now : State) (limit : ℕ) (result : Result Filling Refusal) → IfOk result (IsFilling limit state.engine now) → IfErr result (λ refusal. refusal ≡ edits.Grid grids.Memory)
    → IsReply (fill_tried state limit) (Some grid_memory) (lines_reply filling_line result (record state { engine = now }))
fill_fits state now limit (Ok fillings.Filled) is memory = rw (within limit (due (position_of state.engine)) is.0, is.1) (ap (λ (p : State). Ok (record { lines = filling_line fillings.Filled; state = record state { engine = p } })) (sym is.2))
fill_fits state now limit (Ok fillings.NoFill) is memory = rw (within limit (due (position_of state.engine)) is.0, is.1) (ap (λ (p : State). Ok (record { lines = filling_line fillings.NoFill; state = record state { engine = p } })) (sym is.2))
fill_fits state now limit (Ok fillings.Limit) is memory = rw (past limit (due (position_of state.engine)) is.0) (ap (λ (p : State). Ok (record { lines = filling_line fillings.Limit; state = record state { engine = p } })) (sym is.1))
fill_fits state now limit (Err refusal) is memory = inr (fills (nat_lt limit (due (position_of state.engine))) (found (position_of state.engine)) _ _ _, ap (λ r. Some (refusals.Engine r)) (sym memory))
