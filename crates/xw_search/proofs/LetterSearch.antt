-- The steps of a search.
use Rattle.std.proofs.Common.{◌≡◌, ◌≢◌, ℕ, zero, suc, ◌<◌, Bool, true, false, not, ◌&&◌, ◌||◌, ◌==◌, List, [], ◌∷◌, ◌++◌, map, drop, length, get_or, set, Option, Some, None, refl, sym, ◌∙◌, ap, subst, arith, inl, inr}
use Rattle.std.specs.Prelude.{All, Contains, is_some, bytes_eq}
use Rattle.std.proofs.lemmas.Bool.{and_parts, and_from, cases_order, eq-eqb, ne_eqb, false≢true}
use Rattle.std.proofs.lemmas.Slice.Eq.{bytes_eq-Decides}
use Rattle.std.proofs.lemmas.List.{get_or-set_other}
use Rattle.xw_letters.specs.LetterSet.{has}
use Rattle.xw_grid.specs.declared.cell.Square.{Square}
use Rattle.xw_grid.specs.declared.cell.Square.TheVariants.{Block, Open}
use Rattle.xw_grid.specs.Light.{lights_of}
use Rattle.xw_feas.specs.Board.{board_of, light_at, is_open, square_is_open, indices_of}
use Rattle.xw_feas.specs.State.{State}
use Rattle.xw_feas.specs.WellFormed.{IsLaidOut}
use Rattle.xw_feas.proofs.BoardLemmas.{length-entries, length-open_cells}
use Rattle.xw_search.specs.FeasibleLetters.{is_feasible_letter}
use Rattle.xw_search.specs.Lights.{is_spelled_again, light_count, is_entered, spelling, spell_same}
use Rattle.xw_search.specs.Position.{Position, position_of, with_entries, holding, squares_with, DiffersInEntries}
use Rattle.xw_search.proofs.Shaped.{IsShaped, shaped}
use Rattle.xw_search.proofs.BelowLemmas.{any_below-gives, any_below-none}
use Rattle.xw_search.proofs.StateLemmas.{DiffersInEntries-then, IsTwin-entries}
use Rattle.xw_search.proofs.StackLemmas.{differs_back}
use Rattle.xw_search.proofs.PlacingLemmas.{cell_in, entered-at, entered-from, spelled-same}
use Rattle.xw_search.specs.NamedFill.{flags, entry_in}
use Rattle.xw_search.specs.Progress.{is_target, is_watched, HasNone, IsDistinct, IsEntered, IsOpen, IsFrame, AreAlive, IsRepeatedAt, IsApartAt, IsRefuted, HasNoLetter, IsOnlyLetter, is_forced, IsNextLetter, MayTry, AreFrames, with_frame, end_of, entries_of, IsAt, IsLetterEntered}
use Rattle.xw_search.specs.declared.frame.Frame.{Frame}
use Rattle.xw_search.proofs.NamedFills.{in_named-gives, target_parts, dead_has_none, repeat_has_none, exhausted_has_none, only_has_none, entered_letter}
use Rattle.xw_search.specs.Stack.{first_or, AreForced, LeadThrough, IsTakenBack}
use Rattle.xw_search.proofs.Frames.{end_of-last, end_of-append, AreFrames-more, AreFrames-append, frame_begun, frame_tried}

-- ---- positions

opens_with : (squares : List Square) (entries : List (Option ℕ)) → map square_is_open (squares_with squares entries) ≡ map square_is_open squares
opens_with [] entries = refl
opens_with (Block ∷ squares) entries = ap (λ rest. false ∷ rest) (opens_with squares (drop 1 entries))
opens_with (Open entered ∷ squares) entries = ap (λ rest. true ∷ rest) (opens_with squares (drop 1 entries))

-- a state that differs from the start only in entries has the start's position with these entries
pub position_at : (start now : State) → DiffersInEntries start now → position_of now ≡ holding (position_of start) (entries_of now)
unfolding board_of
position_at start now differs =
    let twin = IsTwin-entries start now differs in
    let lights : map (indices_of now.grid) (lights_of now.grid) ≡ map (indices_of start.grid) (lights_of start.grid) =
    ap (λ (s : State). map (indices_of s.grid) (lights_of now.grid)) differs ∙ ap (map (indices_of start.grid)) twin.shape.lights in
    let opens : map square_is_open now.grid.squares ≡ map square_is_open start.grid.squares =
    ap (λ (s : State). map square_is_open s.grid.squares) differs ∙ opens_with start.grid.squares (entries_of now) in
    λ i. record { board = record { lights = lights i; open_cells = opens i; entries = entries_of now }; words = twin.words i }

pub at_position : (start now : State) (entries : List (Option ℕ)) → IsAt start entries now → position_of now ≡ holding (position_of start) entries
at_position start now entries at = position_at start now at.0 ∙ ap (holding (position_of start)) at.1

-- the start has the shape of the states after it
pub shaped_start : (start now : State) → DiffersInEntries start now → IsLaidOut (board_of now.grid) → IsShaped (board_of start.grid)
shaped_start start now differs laid =
    let is = subst (λ (p : Position). IsShaped p.board) (position_at start now differs) (shaped (board_of now.grid) laid) in
    record {
      entries = length-entries start.grid ∙ sym (length-open_cells start.grid);
      short = is.short;
      cells_open = is.cells_open;
      distinct = is.distinct;
      cross_once = is.cross_once;
    }

-- emptying a cell that was empty before takes the letter back
pub set_back : (now : List (Option ℕ)) (cell letter : ℕ) → entry_in now cell ≡ None → set (set now cell (Some letter)) cell None ≡ now
set_back [] cell letter empty = refl
set_back (entered ∷ now) zero letter empty = ap (λ o. o ∷ now) (sym empty)
set_back (entered ∷ now) (suc cell) letter empty = ap (λ rest. entered ∷ rest) (set_back now cell letter empty)

-- ---- what speaks against a fill

same_word : (a b : List ℕ) → bytes_eq a b ≡ true → a ≡ b
same_word a b h = (bytes_eq-Decides a b).0 h

equal_words : (a b : List ℕ) → a ≡ b → bytes_eq a b ≡ true
equal_words a b e = (bytes_eq-Decides a b).1 e

-- two wholly entered lights that spell the same, the first before the second
repeated_pair : (now : Position) → IsRepeatedAt now → (light : ℕ) × (other : ℕ) × (light < other) × (other < light_count now) × (is_entered now light ≡ true) × (is_entered now other ≡ true) × (spelling now light ≡ spelling now other)
repeated_pair now repeated =
    let light = repeated.0 in
    let found = any_below-gives (λ other. not (other == light) && spell_same now light other) (light_count now) repeated.2 in
    let other = found.0 in
    let parts = and_parts (not (other == light)) (spell_same now light other) found.2 in
    let whole = and_parts (is_entered now light) (is_entered now other && bytes_eq (spelling now light) (spelling now other)) parts.1 in
    let rest = and_parts (is_entered now other) (bytes_eq (spelling now light) (spelling now other)) whole.1 in
    let same = same_word (spelling now light) (spelling now other) rest.1 in
    elim (cases_order light other) [
      | inl here ↦ absurd (false≢true (sym (ap not (eq-eqb other light (sym here))) ∙ parts.0))
      | inr apart ↦ elim apart [
        | inl before ↦ (light, other, before, found.1, whole.0, rest.0, same)
        | inr later ↦ (other, light, later, repeated.1, rest.0, whole.0, sym same)
      ]
    ]

pub refuted_has_none : (named : ℕ → Bool) (start : Position) (now : List (Option ℕ)) (watched : List Bool) → IsEntered named start now → ((light : ℕ) → light < light_count start → flags watched light ≡ is_watched named start light) → IsRefuted (flags watched) (holding start now) → HasNone named start now
refuted_has_none named start now watched entered are (inl dead) = dead_has_none named start now dead.0 entered dead.1.0 (sym (are dead.0 dead.1.0) ∙ dead.1.1) dead.1.2
refuted_has_none named start now watched entered are (inr repeated) =
    let pair = repeated_pair (holding start now) repeated in
    repeat_has_none named start now pair.0 pair.1 entered pair.2 pair.3 pair.4 pair.5 pair.6

-- a light that is not spelled again differs from each other wholly entered light
pub apart_from : (now : Position) (light other : ℕ) → is_spelled_again now light ≡ false → other < light_count now → (other ≡ light → ⊥) → is_entered now light ≡ true → is_entered now other ≡ true → spelling now light ≢ spelling now other
apart_from now light other never in_grid apart whole whole_other same =
    let test = any_below-none (λ other. not (other == light) && spell_same now light other) (light_count now) never other in_grid in
    false≢true (sym test ∙ and_from _ _ (ap not (ne_eqb other light apart)) (and_from _ _ whole (and_from _ _ whole_other (equal_words (spelling now light) (spelling now other) same))))

-- a light that does not pass through the cell is as it was
module _ (start : Position) (now : List (Option ℕ)) (cell letter : ℕ) where
  unchanged_entered : (light : ℕ) → ((k : ℕ) → k < length (light_at start.board light) → get_or (light_at start.board light) k 0 ≢ cell) → is_entered (holding start (set now cell (Some letter))) light ≡ true → is_entered (holding start now) light ≡ true
  unchanged_entered light none whole = entered-from (with_entries start.board now) (light_at start.board light) (λ k below.
      let found = entered-at (with_entries start.board (set now cell (Some letter))) (light_at start.board light) whole k below in
      (found.0, sym (get_or-set_other now cell (get_or (light_at start.board light) k 0) (Some letter) None (none k below)) ∙ found.1))

  unchanged_spelled : (light : ℕ) → ((k : ℕ) → k < length (light_at start.board light) → get_or (light_at start.board light) k 0 ≢ cell) → spelling (holding start (set now cell (Some letter))) light ≡ spelling (holding start now) light
  unchanged_spelled light none = spelled-same (with_entries start.board (set now cell (Some letter))) (with_entries start.board now) (light_at start.board light) (λ k below. get_or-set_other now cell (get_or (light_at start.board light) k 0) (Some letter) None (none k below))

  -- no two lights spell the same after a letter, if none through its cell spells the same as another one
  pub distinct_more : IsDistinct (holding start now) → IsApartAt (holding start (set now cell (Some letter))) cell → IsDistinct (holding start (set now cell (Some letter)))
  distinct_more distinct apart light other before in_grid whole whole_other same = elim (cell_in (light_at start.board light) cell) [
    | inl here ↦ apart_from (holding start (set now cell (Some letter))) light other (apart light (omega (arith, before, in_grid), (here.0, here.1, here.2))) in_grid (λ e. let e' = e in omega (arith, before, e')) whole whole_other same
    | inr none ↦ elim (cell_in (light_at start.board other) cell) [
      | inl here ↦ apart_from (holding start (set now cell (Some letter))) other light (apart other (in_grid, (here.0, here.1, here.2))) (omega (arith, before, in_grid)) (λ e. let e' = e in omega (arith, before, e')) whole_other whole (sym same)
      | inr none_other ↦ distinct light other before in_grid (unchanged_entered light none whole) (unchanged_entered other none_other whole_other) (sym (unchanged_spelled light none) ∙ same ∙ unchanged_spelled other none_other)
    ]
  ]

-- ---- the steps

-- a letter stands if nothing speaks against it
pub letter_stands : (named : ℕ → Bool) (start : Position) (now : List (Option ℕ)) (cell letter : ℕ) (watched : List Bool) → IsShaped start.board → MayTry named start now cell letter → ((light : ℕ) → light < light_count start → flags watched light ≡ is_watched named start light)
    → AreAlive (flags watched) (holding start (set now cell (Some letter))) → IsApartAt (holding start (set now cell (Some letter))) cell → IsOpen named start (set now cell (Some letter))
letter_stands named start now cell letter watched is may are alive apart = record {
  entered = entered_letter named start now cell letter is may.is_open.entered may.target may.empty may.feasible;
  alive = λ light in_grid watch. alive light in_grid (are light in_grid ∙ watch);
  distinct = distinct_more start now cell letter may.is_open.distinct apart;
}

pub letter_refuted : (named : ℕ → Bool) (start : Position) (now : List (Option ℕ)) (cell letter : ℕ) (watched : List Bool) → IsShaped start.board → MayTry named start now cell letter → ((light : ℕ) → light < light_count start → flags watched light ≡ is_watched named start light)
    → IsRefuted (flags watched) (holding start (set now cell (Some letter))) → HasNone named start (set now cell (Some letter))
letter_refuted named start now cell letter watched is may are refuted =
    refuted_has_none named start (set now cell (Some letter)) watched (entered_letter named start now cell letter is may.is_open.entered may.target may.empty may.feasible) are refuted

-- a letter that was entered, from the start of the search
pub entered_at : (start before after : State) (frame : Frame) (entries : List (Option ℕ)) → IsAt start entries before → IsLetterEntered frame before after → IsAt start (with_frame entries frame) after
entered_at start before after frame entries at entered = (DiffersInEntries-then start before after at.0 entered.entries, entered.entered ∙ ap (λ e. with_frame e frame) at.1)

-- what holds of a search under way: the letters of the stack are entered, and a cell is being filled
pub record IsUnderway (named : ℕ → Bool) (start : State) (stack : List Frame) (cell tried : ℕ) (state : State) : Type 0 where
  pub frames : AreFrames named (position_of start) (entries_of start) stack
  pub here : IsFrame named (position_of start) (end_of (entries_of start) stack) cell tried
  pub at : IsAt start (end_of (entries_of start) stack) state

module _ (named : ℕ → Bool) (start : State) (is : IsShaped (board_of start.grid)) where
  -- where each feasible letter was tried, there is no fill
  pub underway_none : (stack : List Frame) (cell tried : ℕ) (state : State) → IsUnderway named start stack cell tried state → HasNoLetter (position_of state) cell tried → HasNone named (position_of start) (end_of (entries_of start) stack)
  underway_none stack cell tried state underway none =
      exhausted_has_none named (position_of start) (end_of (entries_of start) stack) cell tried is underway.here
      (subst (λ (p : Position). HasNoLetter p cell tried) (at_position start state (end_of (entries_of start) stack) underway.at) none)

  -- a letter that was refuted
  pub underway_tried : (stack : List Frame) (frame : Frame) (more : ℕ) (before there state : State) (watched : List Bool) → IsUnderway named start stack frame.cell frame.tried before
      → MayTry named (position_of start) (end_of (entries_of start) stack) frame.cell frame.letter → ((light : ℕ) → light < light_count (position_of start) → flags watched light ≡ is_watched named (position_of start) light)
      → IsLetterEntered frame before there → IsRefuted (flags watched) (position_of there) → state ≡ before
      → ((other : ℕ) → has more other ≡ (has frame.tried other || (other == frame.letter))) → IsUnderway named start stack frame.cell more state
  underway_tried stack frame more before there state watched underway may are entered speaks same has_more =
      let now = end_of (entries_of start) stack in
      let position = at_position start there (with_frame now frame) (entered_at start before there frame now underway.at entered) in
      let none = letter_refuted named (position_of start) now frame.cell frame.letter watched is may are (subst (IsRefuted (flags watched)) position speaks) in
      record {
        frames = underway.frames;
        here = frame_tried named (position_of start) now frame.cell frame.tried frame.letter more underway.here none has_more;
        at = subst (IsAt start now) (sym same) underway.at;
      }

  -- a letter that stands
  pub underway_on : (stack : List Frame) (frame : Frame) (before state : State) (watched : List Bool) → IsUnderway named start stack frame.cell frame.tried before
      → MayTry named (position_of start) (end_of (entries_of start) stack) frame.cell frame.letter → ((light : ℕ) → light < light_count (position_of start) → flags watched light ≡ is_watched named (position_of start) light)
      → IsLetterEntered frame before state → AreAlive (flags watched) (position_of state) → IsApartAt (position_of state) frame.cell → (frame.is_forced ≡ true → IsOnlyLetter (position_of before) frame.cell frame.letter)
      → IsOpen named (position_of start) (end_of (entries_of start) (stack ++ frame ∷ [])) × AreFrames named (position_of start) (entries_of start) (stack ++ frame ∷ []) × IsAt start (end_of (entries_of start) (stack ++ frame ∷ [])) state
  underway_on stack frame before state watched underway may are entered alive apart only =
      let now = end_of (entries_of start) stack in
      let at = entered_at start before state frame now underway.at entered in
      let position = at_position start state (with_frame now frame) at in
      let ends : end_of (entries_of start) (stack ++ frame ∷ []) ≡ with_frame now frame = end_of-last (entries_of start) stack frame in
      let is_open = letter_stands named (position_of start) now frame.cell frame.letter watched is may are (subst (AreAlive (flags watched)) position alive) (subst (λ (p : Position). IsApartAt p frame.cell) position apart) in (
        subst (IsOpen named (position_of start)) (sym ends) is_open,
        AreFrames-more named (position_of start) (entries_of start) stack frame underway.frames (record { right = underway.here; only = λ forced. subst (λ (p : Position). IsOnlyLetter p frame.cell frame.letter) (at_position start before now underway.at) (only forced) }),
        subst (λ e. IsAt start e state) (sym ends) at,
      )

  -- each watched light has a feasible word
  pub underway_alive : (stack : List Frame) (cell tried : ℕ) (state : State) (watched : List Bool) → IsUnderway named start stack cell tried state → ((light : ℕ) → light < light_count (position_of start) → flags watched light ≡ is_watched named (position_of start) light) → AreAlive (flags watched) (position_of state)
  underway_alive stack cell tried state watched underway are =
      subst (AreAlive (flags watched)) (sym (at_position start state (end_of (entries_of start) stack) underway.at))
      (λ light in_grid watch. underway.here.is_open.alive light in_grid (sym (are light in_grid) ∙ watch))

  -- a cell is chosen to be filled
  pub underway_at : (stack : List Frame) (cell tried : ℕ) (state : State) → AreFrames named (position_of start) (entries_of start) stack → IsOpen named (position_of start) (end_of (entries_of start) stack) → IsAt start (end_of (entries_of start) stack) state
      → is_target named (position_of start) cell ≡ true → entry_in (entries_of state) cell ≡ None → tried ≡ 0 → ((letter : ℕ) → has 0 letter ≡ false) → IsUnderway named start stack cell tried state
  underway_at stack cell tried state frames is_open at target empty is_none none = record {
    frames = frames;
    here = subst (λ t. IsFrame named (position_of start) (end_of (entries_of start) stack) cell t) (sym is_none)
        (frame_begun named (position_of start) (end_of (entries_of start) stack) cell is_open target (ap (λ e. entry_in e cell) (sym at.1) ∙ empty) none);
    at = at;
  }

  -- where no fill keeps the letters of forced frames, there is none without them
  pub forced_none : (now : List (Option ℕ)) (frames : List Frame) → AreFrames named (position_of start) now frames → AreForced is_forced frames → HasNone named (position_of start) (end_of now frames) → HasNone named (position_of start) now
  forced_none now [] are forced none = none
  forced_none now (frame ∷ frames) are forced none = only_has_none named (position_of start) now frame is are.0 forced.0 (forced_none (with_frame now frame) frames are.1 forced.1 none)

  -- the entries before frames
  at_before : (now : List (Option ℕ)) (frames : List Frame) (states : List State) (state : State) → AreFrames named (position_of start) now frames → LeadThrough IsLetterEntered frames states state → IsAt start (end_of now frames) state → IsAt start now (first_or states state)
  at_before now [] [] state are lead at = at
  at_before now [] (first ∷ states) state are lead at = absurd lead
  at_before now (frame ∷ frames) [] state are lead at = absurd lead
  at_before now (frame ∷ frames) (first ∷ states) state are lead at =
      let next = first_or states state in
      let after = at_before (with_frame now frame) frames states state are.1 lead.1 at in (
        DiffersInEntries-then start next first after.0 (differs_back first next lead.0.entries),
        sym (set_back (entries_of first) frame.cell frame.letter lead.0.empty) ∙ ap (λ e. set e frame.cell None) (sym lead.0.entered ∙ after.1) ∙ set_back now frame.cell frame.letter are.0.right.empty,
      )

  -- back to the last cell with another letter, which is refuted
  pub underway_back : (stack below : List Frame) (last : Frame) (cell tried more : ℕ) (state state_back : State) → IsUnderway named start stack cell tried state → HasNoLetter (position_of state) cell tried
      → ((other : ℕ) → has more other ≡ (has last.tried other || (other == last.letter)))
      → IsTakenBack IsLetterEntered is_forced last below state_back stack state → IsUnderway named start below last.cell more state_back
  underway_back stack below last cell tried more state state_back underway none has_more taken =
      let first = entries_of start in
      let now = end_of first below in
      let frames = AreFrames-append named (position_of start) first below (last ∷ taken.after) (subst (AreFrames named (position_of start) first) taken.placements_are underway.frames) in
      let ends : end_of first stack ≡ end_of (with_frame now last) taken.after = ap (end_of first) taken.placements_are ∙ end_of-append first below (last ∷ taken.after) in
      let none_there = forced_none (with_frame now last) taken.after frames.1.1 taken.forced (subst (HasNone named (position_of start)) ends (underway_none stack cell tried state underway none)) in
      record {
        frames = frames.0;
        here = frame_tried named (position_of start) now last.cell last.tried last.letter more frames.1.0.right none_there has_more;
        at = at_before now (last ∷ taken.after) (state_back ∷ taken.states) state frames.1 taken.through (subst (λ e. IsAt start e state) ends underway.at);
      }

  -- where all frames are forced and the last cell is refuted, there is no fill
  pub underway_end : (stack : List Frame) (cell tried : ℕ) (state : State) → IsUnderway named start stack cell tried state → HasNoLetter (position_of state) cell tried → AreForced is_forced stack → HasNone named (position_of start) (entries_of start)
  underway_end stack cell tried state underway none forced = forced_none (entries_of start) stack underway.frames forced (underway_none stack cell tried state underway none)

-- ---- cells to be filled are open

pub target_open : (named : ℕ → Bool) (start : Position) (cell : ℕ) → IsShaped start.board → is_target named start cell ≡ true → is_open start.board cell ≡ true
target_open named start cell is target =
    let there = in_named-gives named start cell (target_parts named start cell target).1 in
    subst (λ c. is_open start.board c ≡ true) there.5 (is.cells_open there.0 there.1 there.4)

pub open_there : (start now : State) (cell : ℕ) → DiffersInEntries start now → is_open (board_of start.grid) cell ≡ true → is_open (board_of now.grid) cell ≡ true
open_there start now cell differs opens = subst (λ (p : Position). is_open p.board cell ≡ true) (sym (position_at start now differs)) opens

pub targets_open : (named : ℕ → Bool) (start now : State) (targets list : List ℕ) → DiffersInEntries start now → IsShaped (board_of start.grid) → All (λ cell. is_target named (position_of start) cell ≡ true) targets → list ≡ targets → All (λ cell. is_open (board_of now.grid) cell ≡ true) list
targets_open named start now targets list differs is sound same = subst (λ cells. All (λ cell. is_open (board_of now.grid) cell ≡ true) cells) (sym same)
    (λ k d below. open_there start now (get_or targets k d) differs (target_open named (position_of start) (get_or targets k d) is (sound k d below)))

-- a chosen cell is to be filled
pub chosen_target : (named : ℕ → Bool) (start : Position) (targets list : List ℕ) (cell : ℕ) → All (λ cell. is_target named start cell ≡ true) targets → list ≡ targets → Contains list cell → is_target named start cell ≡ true
chosen_target named start targets list cell sound same has_it =
    let there = subst (λ cells. Contains cells cell) same has_it in
    subst (λ c. is_target named start c ≡ true) there.2 (sound there.0 cell there.1)

-- where no cell is left to be chosen, each is filled
pub none_left : (named : ℕ → Bool) (start : Position) (targets list : List ℕ) (now : List (Option ℕ)) → ((cell : ℕ) → is_target named start cell ≡ true → Contains targets cell) → list ≡ targets → All (λ cell. is_some (entry_in now cell) ≡ true) list → (cell : ℕ) → is_target named start cell ≡ true → is_some (entry_in now cell) ≡ true
none_left named start targets list now all same filled cell target =
    let there = all cell target in
    let here = subst (λ cells. All (λ c. is_some (entry_in now c) ≡ true) cells) same filled in
    subst (λ c. is_some (entry_in now c) ≡ true) there.2 (here there.0 cell there.1)

-- the next letter may be tried
pub may_try : (named : ℕ → Bool) (start : State) (stack : List Frame) (cell tried letter : ℕ) (state : State) → IsUnderway named start stack cell tried state → IsNextLetter (position_of state) cell tried letter → MayTry named (position_of start) (end_of (entries_of start) stack) cell letter
may_try named start stack cell tried letter state underway next = record {
  is_open = underway.here.is_open;
  target = underway.here.target;
  empty = underway.here.empty;
  feasible = subst (λ (p : Position). is_feasible_letter p cell letter ≡ true) (at_position start state (end_of (entries_of start) stack) underway.at) next.0;
}
