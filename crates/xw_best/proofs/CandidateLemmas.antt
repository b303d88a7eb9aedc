-- A fill that is known beforehand.
use Rattle.std.proofs.Common.{◌≡◌, ℕ, ◌<◌, Bool, true, false, not, ◌&&◌, List, [], ◌∷◌, length, set, Option, Some, None, refl, sym, ◌∙◌, ap, subst, arith}
use Rattle.std.specs.Prelude.{All, IfSome, is_none, bytes_eq}
use Rattle.std.proofs.lemmas.Bool.{and_parts, true≢false}
use Rattle.std.proofs.lemmas.List.{length-set, get_or-set_other}
use Rattle.std.proofs.lemmas.List.Elements.{All-head, All-tail, All-map, All-weaker}
use Rattle.std.proofs.lemmas.Slice.Eq.{bytes_eq-Decides}
use Rattle.xw_words.specs.Dictionary.{Entry, known_words}
use Rattle.xw_grid.specs.declared.cell.Cell.{Cell}
use Rattle.xw_letters.specs.Letter.{IsLetter}
use Rattle.xw_grid.specs.declared.cell.Square.TheVariants.{Open}
use Rattle.xw_grid.specs.Grid.{IsSquare, is_open, index_of, cell_at}
use Rattle.xw_grid.proofs.GridLemmas.{index_of-cell_at}
use Rattle.xw_feas.specs.Board.{board_of}
use Rattle.xw_feas.proofs.ChangesLemmas.{open_index}
use Rattle.xw_feas.specs.State.{State}
use Rattle.xw_feas.specs.WellFormed.{IsWellFormed}
use Rattle.xw_search.specs.Position.{Position, position_of, holding, DiffersInEntries}
use Rattle.xw_search.specs.Lights.{light_count, is_entered, spelling, lacks_words}
use Rattle.xw_search.specs.Listing.{IsActive, is_listed, is_unlisted}
use Rattle.xw_search.specs.Writing.{CanBeWritten, by_index, written_in}
use Rattle.xw_search.specs.NamedFill.{flags, is_in_named, entry_in, IsFillOf}
use Rattle.xw_search.specs.Progress.{entries_of, is_target, IsPlan, IsOpen, IsDistinct, HasEntered}
use Rattle.xw_best.specs.Best.{at_least, IsFillAt}
use Rattle.xw_search.specs.declared.filling.Filling.TheVariants.{Filled}
use Rattle.xw_best.specs.Inner.Climbing.{AreFresh}
use Rattle.xw_best.specs.Inner.Candidate.{IsForTarget, IsComplete}
use Rattle.xw_search.specs.declared.plan.Plan.{Plan}
use Rattle.xw_search.proofs.BelowLemmas.{Contains-among, list_any-gives}
use Rattle.xw_best.proofs.LeastLemmas.{at_least-same}
use Rattle.xw_search.proofs.CheckLemmas.{never_again}
use Rattle.xw_search.proofs.NamedFills.{open_is_fill}
use Rattle.xw_search.proofs.LetterSearch.{position_at, apart_from, none_left, target_open}
use Rattle.xw_search.proofs.Shaped.{shaped}
use Rattle.xw_search.proofs.Entering.{open_within}

-- ---- what is written

written_long : (list : List (ℕ × Option ℕ)) (base : List (Option ℕ)) → length (written_in base list) ≡ length base
written_long [] base = refl
written_long (first ∷ list) base = written_long list (set base first.0 first.1) ∙ length-set base first.0 first.1

-- a cell that is not in the list keeps its entry
written_elsewhere : (test : ℕ → Bool) (list : List (ℕ × Option ℕ)) (base : List (Option ℕ)) (cell : ℕ) → All (λ written. test written.0 ≡ true) list → test cell ≡ false → entry_in (written_in base list) cell ≡ entry_in base cell
written_elsewhere test [] base cell all never = refl
written_elsewhere test (first ∷ list) base cell all never =
    let here = All-head (λ (written : ℕ × Option ℕ). test written.0 ≡ true) first list all in
    written_elsewhere test list (set base first.0 first.1) cell (All-tail (λ (written : ℕ × Option ℕ). test written.0 ≡ true) first list all) never
    ∙ get_or-set_other base first.0 cell first.1 None (λ e. true≢false (sym here ∙ ap test (sym e) ∙ never))

-- what can be written, of a list for cells to be filled
pub for_targets-good : (named : ℕ → Bool) (state : State) (list : List (Cell × Option ℕ)) → All (IsForTarget named state) list → All (CanBeWritten state.grid) list
for_targets-good named state list all = All-weaker (IsForTarget named state) (CanBeWritten state.grid) (λ written h. h.0) list all

for_targets-index : (named : ℕ → Bool) (state : State) (list : List (Cell × Option ℕ)) → All (IsForTarget named state) list → All (λ written. is_target named (position_of state) written.0 ≡ true) (by_index state.grid list)
for_targets-index named state list all =
    All-map (λ (written : ℕ × Option ℕ). is_target named (position_of state) written.0 ≡ true) (λ (written : Cell × Option ℕ). (index_of state.grid written.0, written.1)) list
    (All-weaker (IsForTarget named state) (λ (written : Cell × Option ℕ). is_target named (position_of state) (index_of state.grid written.0) ≡ true) (λ written h. h.1) list all)

-- an entry for a cell to be filled
pub target_written : (named : ℕ → Bool) (state : State) (target : ℕ) (cell : Cell) (entry : Option ℕ) → IsWellFormed state → is_target named (position_of state) target ≡ true → cell ≡ cell_at state.grid target → IfSome entry IsLetter → IsForTarget named state (cell, entry)
target_written named state target cell entry formed is cell_is letter =
    let opens = target_open named (position_of state) target (shaped (board_of state.grid) formed.board) is in
    let within = open_within state.grid target formed.grid opens in (
      (ap (is_open state.grid) cell_is ∙ open_index state.grid target formed.grid within ∙ opens, square entry letter),
      ap (is_target named (position_of state)) (ap (index_of state.grid) cell_is ∙ index_of-cell_at state.grid target) ∙ is,
    ) where
      square : (o : Option ℕ) → IfSome o IsLetter → IsSquare (Open o)
      square None h = tt
      square (Some code) h = h

-- ---- what is checked

and_false : (b : Bool) → (b && false) ≡ false
and_false true = refl
and_false false = refl

not_false : (b : Bool) → not b ≡ false → b ≡ true
not_false true e = refl
not_false false e = absurd (true≢false e)

listed_active : (position : Position) (word : List ℕ) → is_listed position word ≡ true → IsActive position.words word
listed_active position word h =
    let known = known_words position.words (length word) in
    let found = list_any-gives (λ (w : Entry). w.active && bytes_eq w.word word) known h in
    let parts = and_parts found.0.active (bytes_eq found.0.word word) found.2 in
    (found.0, (Contains-among found.0 known found.1, (bytes_eq-Decides found.0.word word).0 parts.1, parts.0))

-- a wholly entered light whose word is not among those that are not active
entered_active : (position : Position) (light : ℕ) → is_entered position light ≡ true → is_unlisted position light ≡ false → IsActive position.words (spelling position light)
entered_active position light whole none =
    listed_active position (spelling position light) (not_false (is_listed position (spelling position light)) (sym (ap (λ b. b && not (is_listed position (spelling position light))) whole) ∙ none))

-- letters that were written in cells to be filled are a fill if the check says so
module _ (start now : State) (plan : Plan) (fresh : List Bool) (list : List (Cell × Option ℕ)) (formed : IsWellFormed now) (is : IsPlan (position_of start) plan) (are : AreFresh (position_of start) fresh) (differs : DiffersInEntries start now)
    (written : entries_of now ≡ written_in (entries_of start) (by_index start.grid list)) (all : All (IsForTarget (flags plan.named.items) start) list) (complete : IsComplete plan fresh now) where
  at : position_of now ≡ holding (position_of start) (entries_of now)
  at = position_at start now differs

  same_in : (cell : ℕ) → is_target (flags plan.named.items) (position_of start) cell ≡ false → entry_in (entries_of now) cell ≡ entry_in (entries_of start) cell
  same_in cell never = ap (λ (entries : List (Option ℕ)). entry_in entries cell) written ∙ written_elsewhere (is_target (flags plan.named.items) (position_of start)) (by_index start.grid list) (entries_of start) cell (for_targets-index (flags plan.named.items) start list all) never

  in_now : (light : ℕ) → light < light_count (position_of start) → light < light_count (position_of now)
  in_now light in_grid = subst (λ (p : Position). light < light_count p) (sym at) in_grid

  opened : IsOpen (flags plan.named.items) (position_of start) (entries_of now)
  opened = record {
    entered = record {
      long = ap (λ (entries : List (Option ℕ)). length entries) written ∙ written_long (by_index start.grid list) (entries_of start);
      letters = λ cell letter e. formed.board.letters cell letter e;
      kept = λ cell letter e. same_in cell (ap (λ o. is_none o && is_in_named (flags plan.named.items) (position_of start) cell) e) ∙ e;
      elsewhere = λ cell outside. same_in cell (ap (λ b. is_none (entry_in (entries_of start) cell) && b) outside ∙ and_false (is_none (entry_in (entries_of start) cell)));
      words = λ light in_grid not_before whole.
          entered_active (holding (position_of start) (entries_of now)) light whole
          (subst (λ (p : Position). is_unlisted p light ≡ false) at (complete.listed light (in_now light in_grid) (are.are light in_grid ∙ ap not not_before)));
    };
    alive = λ light in_grid watch. subst (λ (p : Position). lacks_words p light ≡ false) at (complete.alive light (in_now light in_grid) (is.watched.are light in_grid ∙ watch));
    distinct = subst IsDistinct at (λ light other before in_grid whole whole_other.
        apart_from (position_of now) light other (never_again (position_of now) complete.apart light (omega (arith, before, in_grid))) in_grid (λ e. let e' = e in omega (arith, before, e')) whole whole_other);
  }

  pub candidate_filled : IsFillOf (flags plan.named.items) (position_of start) (entries_of now)
  candidate_filled = open_is_fill (flags plan.named.items) (position_of start) (entries_of now) opened (none_left (flags plan.named.items) (position_of start) plan.targets.items plan.targets.items (entries_of now) is.targets.all refl complete.filled)

-- it is a fill at the least grade
pub known_fill : (named : ℕ → Bool) (before now : State) → IsWellFormed before → HasEntered named before now Filled → IsFillAt named before before.words.least (entries_of now) × DiffersInEntries (at_least before before.words.least) now
known_fill named before now formed has = (
  subst (λ (s : State). IsFillOf named (position_of s) (entries_of now)) (sym (at_least-same before formed)) has.0,
  subst (λ (s : State). DiffersInEntries s now) (sym (at_least-same before formed)) has.1,
)
