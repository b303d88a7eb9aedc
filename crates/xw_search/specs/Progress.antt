-- The progress of a search for a fill of the named lights: what holds for the entries that it has made since its
-- start.
use Rattle.std.specs.Prelude.{◌≡◌, ◌⊎◌, ℕ, ◌<◌, ◌≢◌, Bool, true, false, ◌&&◌, ◌||◌, List, [], ◌∷◌, ◌++◌, length, slice_set, slice_index_or, All, Contains, Option, Some, None, is_none}
use Rattle.std.specs.List.{list_any}
use Rattle.xw_letters.specs.LetterSet.{has}
use Rattle.xw_feas.specs.Board.{board_of, is_open, light_at}
use Rattle.xw_feas.specs.State.{State}
use Rattle.xw_feas.specs.WellFormed.{HasLetterEntries}
use Rattle.xw_search.specs.Position.{Position, position_of, with_entries, holding, DiffersInEntries}
use Rattle.xw_feas.specs.Passes.{Passes}
use Rattle.xw_search.specs.FeasibleLetters.{is_feasible_letter}
use Rattle.xw_search.specs.Lights.{is_spelled_again, light_count, is_entered, spelling, lacks_words}
use Rattle.xw_search.specs.Listing.{IsActive}
use Rattle.xw_search.specs.NamedFill.{flags, is_in_named, entry_in, Keeps, IsFillOf}
use Rattle.xw_search.specs.declared.frame.Frame.{Frame}
use Rattle.xw_search.specs.declared.plan.Plan.{Plan}
use Rattle.xw_search.specs.declared.filling.Filling.{Filling}
use Rattle.xw_search.specs.declared.filling.Filling.TheVariants.{Filled}

-- the cell is to be filled: it is in a named light, and empty at the start
abbrev pub is_target : (ℕ → Bool) → Position → ℕ → Bool
is_target named start cell = is_none (entry_in start.board.entries cell) && is_in_named named start cell

-- the light passes through a cell to be filled
abbrev pub has_target : (ℕ → Bool) → Position → ℕ → Bool
has_target named start light = list_any (is_target named start) (light_at start.board light)

-- the light is watched: it is named, or passes through a cell to be filled
abbrev pub is_watched : (ℕ → Bool) → Position → ℕ → Bool
is_watched named start light = named light || has_target named start light

-- there is a light, and it is named
abbrev pub is_flagged : (ℕ → Bool) → Option ℕ → Bool
is_flagged named None = false
is_flagged named (Some light) = named light

-- the list has exactly the cells to be filled
pub record AreTargets (named : ℕ → Bool) (start : Position) (targets : List ℕ) : Type 0 where
  pub sound : All (λ cell. is_target named start cell ≡ true) targets
  pub all : (cell : ℕ) → is_target named start cell ≡ true → Contains targets cell

-- there is a flag for each light, which says whether it is watched
pub record AreWatched (named : ℕ → Bool) (start : Position) (watched : List Bool) : Type 0 where
  pub long : length watched ≡ light_count start
  pub are : (light : ℕ) → light < light_count start → slice_index_or watched light false ≡ is_watched named start light

-- the plan is right for the start
pub record IsPlan (start : Position) (plan : Plan) : Type 0 where
  pub watched : AreWatched (flags plan.named.items) start plan.watched.items
  pub targets : AreTargets (flags plan.named.items) start plan.targets.items
  pub crossings : length plan.crossings.items ≡ length plan.targets.items

-- ---- what rules out a fill

-- a watched light without a feasible word
abbrev pub IsDead : (ℕ → Bool) → Position → ℕ → Type 0
IsDead watched now light = (light < light_count now) × (watched light ≡ true) × (lacks_words now light ≡ true)

-- each watched light has a feasible word
abbrev pub AreAlive : (ℕ → Bool) → Position → Type 0
AreAlive watched now = (light : ℕ) → light < light_count now → watched light ≡ true → lacks_words now light ≡ false

abbrev pub repeats_with : Position → Option ℕ → Bool
repeats_with now None = false
repeats_with now (Some light) = is_spelled_again now light

-- some light spells the same as another one
abbrev pub IsRepeatedAt : Position → Type 0
IsRepeatedAt now = (light : ℕ) × (light < light_count now) × (is_spelled_again now light ≡ true)

-- no light through the cell spells the same as another one
abbrev pub IsApartAt : Position → ℕ → Type 0
IsApartAt now cell = (light : ℕ) → Passes now.board cell light → is_spelled_again now light ≡ false

-- a watched light has no feasible word, or a light spells the same as another one
abbrev pub IsRefuted : (ℕ → Bool) → Position → Type 0
IsRefuted watched now = ((light : ℕ) × IsDead watched now light) ⊎ IsRepeatedAt now

-- ---- the letters of a cell

-- a feasible letter of the cell that was not tried
abbrev pub IsNextLetter : Position → ℕ → ℕ → ℕ → Type 0
IsNextLetter now cell tried letter = (is_feasible_letter now cell letter ≡ true) × (has tried letter ≡ false)

-- every feasible letter of the cell was tried
abbrev pub HasNoLetter : Position → ℕ → ℕ → Type 0
HasNoLetter now cell tried = (letter : ℕ) → is_feasible_letter now cell letter ≡ true → has tried letter ≡ true

-- ---- the entries on the way

-- the named lights have no fill that keeps all of these entries
abbrev pub HasNone : (ℕ → Bool) → Position → List (Option ℕ) → Type 0
HasNone named start now = (entries : List (Option ℕ)) → IsFillOf named start entries → Keeps now entries → ⊥

-- every watched light has a feasible word
abbrev pub IsAlive : (ℕ → Bool) → Position → List (Option ℕ) → Type 0
IsAlive named start now = (light : ℕ) → light < light_count start → is_watched named start light ≡ true → lacks_words (holding start now) light ≡ false

-- no two wholly entered lights spell the same
abbrev pub IsDistinct : Position → Type 0
IsDistinct now = (light other : ℕ) → light < other → other < light_count now → is_entered now light ≡ true → is_entered now other ≡ true → spelling now light ≢ spelling now other

-- letters were entered in cells to be filled, and each light that became wholly entered spells an active word
pub record IsEntered (named : ℕ → Bool) (start : Position) (now : List (Option ℕ)) : Type 0 where
  pub long : length now ≡ length start.board.entries
  pub letters : HasLetterEntries (with_entries start.board now)
  pub kept : Keeps start.board.entries now
  pub elsewhere : (cell : ℕ) → is_in_named named start cell ≡ false → entry_in now cell ≡ entry_in start.board.entries cell
  pub words : (light : ℕ) → light < light_count start → is_entered start light ≡ false → is_entered (holding start now) light ≡ true → IsActive start.words (spelling (holding start now) light)

-- letters were entered in this way, and nothing rules out a fill yet
pub record IsOpen (named : ℕ → Bool) (start : Position) (now : List (Option ℕ)) : Type 0 where
  pub entered : IsEntered named start now
  pub alive : IsAlive named start now
  pub distinct : IsDistinct (holding start now)

-- a cell to be filled is empty, and no letter in `tried` leads to a fill there
pub record IsFrame (named : ℕ → Bool) (start : Position) (now : List (Option ℕ)) (cell tried : ℕ) : Type 0 where
  pub is_open : IsOpen named start now
  pub target : is_target named start cell ≡ true
  pub empty : entry_in now cell ≡ None
  pub refuted : (letter : ℕ) → has tried letter ≡ true → HasNone named start (slice_set now cell (Some letter))

-- the letter is the only feasible one of the cell
abbrev pub IsOnlyLetter : Position → ℕ → ℕ → Type 0
IsOnlyLetter now cell letter = (other : ℕ) → is_feasible_letter now cell other ≡ true → other ≡ letter

-- a frame of a stack: it is right where its letter was entered, and forced only if no other letter was feasible there
pub record IsStacked (named : ℕ → Bool) (start : Position) (now : List (Option ℕ)) (frame : Frame) : Type 0 where
  pub right : IsFrame named start now frame.cell frame.tried
  pub only : frame.is_forced ≡ true → IsOnlyLetter (holding start now) frame.cell frame.letter

-- the entries with the letter of a frame
abbrev pub with_frame : List (Option ℕ) → Frame → List (Option ℕ)
with_frame now frame = slice_set now frame.cell (Some frame.letter)

-- each frame of a stack is right where the letters of the frames below it are entered
abbrev pub AreFrames : (ℕ → Bool) → Position → List (Option ℕ) → List Frame → Type 0
AreFrames named start now [] = Unit {0}
AreFrames named start now (frame ∷ frames) = IsStacked named start now frame × AreFrames named start (with_frame now frame) frames

-- the entries with the letters of all frames
abbrev pub end_of : List (Option ℕ) → List Frame → List (Option ℕ)
end_of now [] = now
end_of now (frame ∷ frames) = end_of (with_frame now frame) frames

-- the entries of a state
abbrev pub entries_of : State → List (Option ℕ)
entries_of state = (board_of state.grid).entries

-- the state has these entries, and is otherwise like the start
abbrev pub IsAt : State → List (Option ℕ) → State → Type 0
IsAt start entries now = DiffersInEntries start now × (entries_of now ≡ entries)

-- after Filled the entries are a fill, and all else is as it was
abbrev pub HasEntered : (ℕ → Bool) → State → State → Filling → Type 0
HasEntered named before after Filled = IsFillOf named (position_of before) (entries_of after) × DiffersInEntries before after
HasEntered named before after other = Unit {0}

-- a letter may be tried in a cell: the cell is empty and to be filled, the letter is feasible, and nothing rules out a
-- fill yet
pub record MayTry (named : ℕ → Bool) (start : Position) (now : List (Option ℕ)) (cell letter : ℕ) : Type 0 where
  pub is_open : IsOpen named start now
  pub target : is_target named start cell ≡ true
  pub empty : entry_in now cell ≡ None
  pub feasible : is_feasible_letter (holding start now) cell letter ≡ true

-- ---- entering a letter

-- the letter of a frame can be entered: its cell is open and empty, and the letter is feasible there
pub record CanBeEntered (frame : Frame) (state : State) : Type 0 where
  pub opens : is_open (board_of state.grid) frame.cell ≡ true
  pub empty : entry_in (entries_of state) frame.cell ≡ None
  pub feasible : is_feasible_letter (position_of state) frame.cell frame.letter ≡ true

-- no other letter is feasible in the cell of a frame
abbrev pub is_forced : Frame → Bool
is_forced frame = frame.is_forced

-- the cell took the letter, and nothing else changed
pub record IsLetterSet (cell letter : ℕ) (before after : State) : Type 0 where
  pub entries : entries_of after ≡ slice_set (entries_of before) cell (Some letter)
  pub rest : DiffersInEntries before after

-- entering the letter of a frame in its empty cell leads from one state to the other
pub record IsLetterEntered (frame : Frame) (before after : State) : Type 0 where
  pub opens : is_open (board_of after.grid) frame.cell ≡ true
  pub empty : entry_in (entries_of before) frame.cell ≡ None
  pub entered : entries_of after ≡ with_frame (entries_of before) frame
  pub entries : DiffersInEntries before after

-- The result of trying the letter of a frame. `true`: the letter stays, and nothing rules it out. `false`: something
-- ruled it out, and it was taken back.
abbrev pub IsTried : (ℕ → Bool) → Frame → Bool → State → List Frame → State → List Frame → Type 0
IsTried watched frame true before frames after frames_after =
    (frames_after ≡ frames ++ frame ∷ []) × IsLetterEntered frame before after × AreAlive watched (position_of after) × IsApartAt (position_of after) frame.cell
IsTried watched frame false before frames after frames_after =
    (frames_after ≡ frames) × (after ≡ before) × ((there : State) × IsLetterEntered frame before there × IsRefuted watched (position_of there))
