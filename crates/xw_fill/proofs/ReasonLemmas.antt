-- Leaving out entries, and writing them back, leads to a reason.
use Rattle.std.proofs.Common.{◌≡◌, ℕ, zero, suc, ◌+◌, ◌<◌, ◌≤◌, Bool, true, false, cond, List, [], ◌∷◌, drop, length, get_or, set, Option, Some, None, refl, sym, ◌∙◌, ap, subst, arith, inl, inr, IfSome}
use Rattle.std.specs.Prelude.{◌⊎◌, ◌==◌, All, is_some, count_by}
use Rattle.std.specs.List.{AllWithin}
use Rattle.std.proofs.lemmas.Bool.{cases_eq, false≢true, true≢false, ne_eqb}
use Rattle.std.proofs.lemmas.List.{length-set, get_or-set_same, get_or-set_other, set-get_or}
use Rattle.std.proofs.lemmas.List.Elements.{All-same, All-weaker, All-contains, at_read, AllWithin-none, AllWithin-more, All-from_all_within, AllWithin-upto}
use Rattle.std.proofs.lemmas.List.Sums.{sum_by-set}
use Rattle.xw_letters.specs.Letter.{IsLetter}
use Rattle.xw_grid.specs.declared.cell.Cell.{Cell}
use Rattle.xw_grid.specs.declared.cell.Square.TheVariants.{Open}
use Rattle.xw_grid.specs.Grid.{IsSquare, is_open, index_of, cell_at, entry as grid_entry}
use Rattle.xw_grid.proofs.GridLemmas.{index_of-cell_at}
use Rattle.xw_feas.specs.State.{State}
use Rattle.xw_feas.specs.WellFormed.{IsWellFormed}
use Rattle.xw_search.specs.Position.{Position, position_of, holding, DiffersInEntries}
use Rattle.xw_search.specs.Lights.{light_count, lacks_words}
use Rattle.xw_search.specs.FeasibleWords.{feasible_words}
use Rattle.xw_search.proofs.StateLemmas.{DiffersInEntries-itself, DiffersInEntries-then, differs_open}
use Rattle.xw_fill.proofs.StateLemmas.{differs_index}
use Rattle.xw_fill.specs.Reason.{entry_in, leaves_none, IsPart, no_entries, IsReason}
use Rattle.xw_search.specs.Writing.{entries_of, CanBeWritten, by_index, written_in}
use Rattle.xw_fill.specs.Sparing.{IsListOf, IsNeeded, IsSpared}
use Rattle.xw_fill.proofs.WritingLemmas.{position_at, same_entries, entry_of_open}
use Rattle.xw_fill.proofs.EntryLemmas.{entry_within, IsPart-itself, IsPart-then, IsPart-none, no_entry, list_good, list_written, list_part_from}

-- a property of each element of a list holds of the current one
pub of_item : {X : Type 0} (P : X → Type 0) (xs : List X) (k : ℕ) (x : X) → k < length xs → x ≡ get_or xs k x → All P xs → P x
of_item P xs k x below is all = subst P (sym is) (all k x below)

-- ---- the lights

pub light_there : (start now : State) (light : ℕ) → DiffersInEntries start now → light < light_count (position_of start) → light < light_count (position_of now)
light_there start now light differs below = subst (λ n. light < n) (sym (ap (λ (p : Position). length p.board.lights) (position_at start now differs))) below

pub dead_count : (position : Position) (light count : ℕ) → count ≡ length (feasible_words position light) → count ≡ 0 → lacks_words position light ≡ true
dead_count position light count is none = ap (λ n. n == 0) (sym is ∙ none)

pub alive_count : (position : Position) (light count : ℕ) → count ≡ length (feasible_words position light) → (count ≡ 0 → ⊥) → lacks_words position light ≡ false
alive_count position light count is some = ne_eqb (length (feasible_words position light)) 0 (λ e. some (is ∙ e))

-- a state with these entries and the start's lights
pub lacks_at : (start now : State) (light : ℕ) (entries : List (Option ℕ)) → DiffersInEntries start now → entries_of now ≡ entries → lacks_words (position_of now) light ≡ leaves_none (position_of start) light entries
lacks_at start now light entries differs is = ap (λ (p : Position). lacks_words p light) (position_at start now differs ∙ ap (holding (position_of start)) is)

pub leaves_along : (start now : State) (light : ℕ) (entries : List (Option ℕ)) → DiffersInEntries start now → leaves_none (position_of now) light entries ≡ leaves_none (position_of start) light entries
leaves_along start now light entries differs = ap (λ (p : Position). leaves_none p light entries) (position_at start now differs)

-- ---- one cell

pub some_letter : (o : Option ℕ) → is_some o ≡ true → (letter : ℕ) × (o ≡ Some letter)
some_letter None h = absurd (false≢true h)
some_letter (Some letter) h = (letter, refl)

pub good_letter : (o : Option ℕ) → IfSome o IsLetter → IsSquare (Open o)
good_letter None h = tt
good_letter (Some letter) h = h

-- an empty cell is needed
pub needed_empty : (state : State) (light : ℕ) (cell : Cell) (found : Option ℕ) → is_open state.grid cell ≡ true → found ≡ grid_entry state.grid cell → is_some found ≡ false → IsNeeded (position_of state) light (entries_of state) (index_of state.grid cell)
needed_empty state light cell found opens is none letter h =
    absurd (false≢true (sym none ∙ ap is_some (is ∙ entry_of_open state.grid cell opens ∙ h)))

pub spared_cell : (before now : State) (light : ℕ) (cell : Cell) (found : Option ℕ) → is_open before.grid cell ≡ true → found ≡ grid_entry before.grid cell → is_some found ≡ true
    → entries_of now ≡ set (entries_of before) (index_of before.grid cell) None → DiffersInEntries before now → lacks_words (position_of now) light ≡ true → IsSpared before light (index_of before.grid cell) now
spared_cell before now light cell found opens is some entries rest dead =
    let there = some_letter found some in
    record {
      letter = there.0;
      was = sym (entry_of_open before.grid cell opens) ∙ sym is ∙ there.1;
      entries = entries;
      rest = rest;
      dead = dead;
    }

pub needed_cell : (before now : State) (light : ℕ) (cell : Cell) → entries_of now ≡ set (entries_of before) (index_of before.grid cell) None → DiffersInEntries before now → lacks_words (position_of now) light ≡ false
    → IsNeeded (position_of before) light (entries_of before) (index_of before.grid cell)
needed_cell before now light cell entries rest alive letter h = sym (lacks_at before now light (set (entries_of before) (index_of before.grid cell) None) rest entries) ∙ alive

set_twice : (entries : List (Option ℕ)) (k : ℕ) (first second : Option ℕ) → set (set entries k first) k second ≡ set entries k second
set_twice [] k first second = refl
set_twice (entry ∷ entries) zero first second = refl
set_twice (entry ∷ entries) (suc k) first second = ap (λ rest. entry ∷ rest) (set_twice entries k first second)

-- the entry was written back
pub cell_back : (before between now : State) (cell : Cell) (found : Option ℕ) → is_open before.grid cell ≡ true → found ≡ grid_entry before.grid cell
    → entries_of between ≡ set (entries_of before) (index_of before.grid cell) None → DiffersInEntries before between
    → entries_of now ≡ set (entries_of between) (index_of between.grid cell) found → DiffersInEntries between now → now ≡ before
cell_back before between now cell found opens is emptied rest written rest_now =
    let k = index_of before.grid cell in
    same_entries before now (DiffersInEntries-then before between now rest rest_now)
    (written
    ∙ ap (λ index. set (entries_of between) index found) (differs_index before between cell rest)
    ∙ ap (λ entries. set entries k found) emptied
    ∙ set_twice (entries_of before) k None found
    ∙ ap (set (entries_of before) k) (is ∙ entry_of_open before.grid cell opens)
    ∙ set-get_or (entries_of before) k None)

-- ---- one pass

-- the entries without one of them
pub IsPart-set : (entries : List (Option ℕ)) (cell : ℕ) → IsPart (set entries cell None) entries
IsPart-set entries cell = record { long = length-set entries cell None; kept = λ other letter h. by_cell other letter (cases_eq other cell) h } where
  by_cell : (other letter : ℕ) → (other ≡ cell) ⊎ (other ≡ cell → ⊥) → entry_in (set entries cell None) other ≡ Some letter → entry_in entries other ≡ Some letter
  by_cell other letter (inl here) h =
      let below = entry_within (set entries cell None) other letter h in
      let none : entry_in (set entries cell None) other ≡ None = ap (entry_in (set entries cell None)) here ∙ get_or-set_same entries cell None None (omega (arith, below, length-set entries cell None, here)) in
      cc
  by_cell other letter (inr apart) h = sym (get_or-set_other entries cell other None None apart) ∙ h

pub fewer_without : (entries : List (Option ℕ)) (cell letter : ℕ) → entry_in entries cell ≡ Some letter → count_by is_some (set entries cell None) < count_by is_some entries
fewer_without entries cell letter was =
    let step = sum_by-set (λ o. cond (is_some o) 1 0) entries cell None None (entry_within entries cell letter was) in
    let one : ◌≡◌ {A = ℕ} (cond (is_some (entry_in entries cell)) 1 0) 1 = ap (λ o. cond (is_some o) 1 0) was in
    omega (arith, step, one)

fewer_with : (before : State) (light cell : ℕ) (now : State) → IsSpared before light cell now → count_by is_some (entries_of now) < count_by is_some (entries_of before)
fewer_with before light cell now spared =
    subst (λ entries. count_by is_some entries < count_by is_some (entries_of before)) (sym spared.entries) (fewer_without (entries_of before) cell spared.letter spared.was)

-- how far a pass has come
pub record IsSparing (start : State) (light : ℕ) (list : List (Cell × Option ℕ)) (spared : Bool) (index : ℕ) (now : State) : Type 0 where
  pub rest : DiffersInEntries start now
  pub part : IsPart (entries_of now) (entries_of start)
  pub dead : lacks_words (position_of now) light ≡ true
  pub few : count_by is_some (entries_of now) ≤ count_by is_some (entries_of start)
  pub fewer : spared ≡ true → count_by is_some (entries_of now) < count_by is_some (entries_of start)
  pub same : spared ≡ false → now ≡ start
  pub needed : spared ≡ false → AllWithin (λ written. IsNeeded (position_of start) light (entries_of start) (index_of start.grid written.0)) list 0 index

pub sparing-begun : (start : State) (light : ℕ) (list : List (Cell × Option ℕ)) → lacks_words (position_of start) light ≡ true → IsSparing start light list false 0 start
sparing-begun start light list dead = record {
  rest = DiffersInEntries-itself start;
  part = IsPart-itself (entries_of start);
  dead = dead;
  few = omega arith;
  fewer = λ e. absurd (false≢true e);
  same = λ e. refl;
  needed = λ e. AllWithin-none (λ written. IsNeeded (position_of start) light (entries_of start) (index_of start.grid written.0)) list 0;
}

pub sparing-spared : (start : State) (light : ℕ) (list : List (Cell × Option ℕ)) (spared : Bool) (index more cell : ℕ) (before now : State) → IsSparing start light list spared index before → IsSpared before light cell now → IsSparing start light list true more now
sparing-spared start light list spared index more cell before now so_far step =
    let less = fewer_with before light cell now step in
    record {
      rest = DiffersInEntries-then start before now so_far.rest step.rest;
      part = IsPart-then (entries_of start) (entries_of before) (entries_of now) so_far.part (subst (λ entries. IsPart entries (entries_of before)) (sym step.entries) (IsPart-set (entries_of before) cell));
      dead = step.dead;
      few = omega (arith, less, so_far.few);
      fewer = λ e. omega (arith, less, so_far.few);
      same = λ e. absurd (true≢false e);
      needed = λ e. absurd (true≢false e);
    }

pub sparing-needed : (start : State) (light : ℕ) (list : List (Cell × Option ℕ)) (spared : Bool) (index : ℕ) (written : Cell × Option ℕ) (before now : State) → IsSparing start light list spared index before
    → index < length list → written ≡ get_or list index written → now ≡ before → IsNeeded (position_of before) light (entries_of before) (index_of before.grid written.0) → IsSparing start light list spared (index + 1) now
sparing-needed start light list spared index written before now so_far below is same needed = subst (IsSparing start light list spared (index + 1)) (sym same) (record {
  rest = so_far.rest;
  part = so_far.part;
  dead = so_far.dead;
  few = so_far.few;
  fewer = so_far.fewer;
  same = so_far.same;
  needed = λ e.
      AllWithin-more (λ written. IsNeeded (position_of start) light (entries_of start) (index_of start.grid written.0)) list 0 index (so_far.needed e)
      (at_read list (λ written. IsNeeded (position_of start) light (entries_of start) (index_of start.grid written.0)) index written below is
      (subst (λ (s : State). IsNeeded (position_of s) light (entries_of s) (index_of s.grid written.0)) (so_far.same e) needed));
})

pub sparing-all : (start : State) (light : ℕ) (list : List (Cell × Option ℕ)) (spared : Bool) (index : ℕ) (now : State) → IsSparing start light list spared index now → length list ≤ index → spared ≡ false
    → All (λ written. IsNeeded (position_of start) light (entries_of start) (index_of start.grid written.0)) list
sparing-all start light list spared index now so_far end none =
    All-from_all_within (λ written. IsNeeded (position_of start) light (entries_of start) (index_of start.grid written.0)) list
    (AllWithin-upto (λ written. IsNeeded (position_of start) light (entries_of start) (index_of start.grid written.0)) list 0 index (length list) end (so_far.needed none))

-- what is needed in a state is needed at the start
pub needed_from : (start now : State) (light : ℕ) (entries : List (Option ℕ)) (list : List (Cell × Option ℕ)) → DiffersInEntries start now → All (λ written. IsNeeded (position_of now) light entries (index_of now.grid written.0)) list
    → All (λ written. IsNeeded (position_of start) light entries (index_of start.grid written.0)) list
needed_from start now light entries list differs =
    All-weaker (λ written. IsNeeded (position_of now) light entries (index_of now.grid written.0)) (λ written. IsNeeded (position_of start) light entries (index_of start.grid written.0))
    (λ written needed. subst (λ index. IsNeeded (position_of start) light entries index) (differs_index start now written.0 differs)
    (λ letter h. sym (leaves_along start now light (set entries (index_of now.grid written.0) None) differs) ∙ needed letter h)) list

pub needed_along : (start now : State) (light : ℕ) (list : List (Cell × Option ℕ)) → DiffersInEntries start now → All (λ written. IsNeeded (position_of now) light (entries_of now) (index_of now.grid written.0)) list
    → All (λ written. IsNeeded (position_of start) light (entries_of now) (index_of start.grid written.0)) list
needed_along start now light list differs = needed_from start now light (entries_of now) list differs

-- ---- writing the lists of a room

-- a list of a room can be written in each state that differs from the start only in entries
pub good_by : (start now : State) (part : List (Option ℕ)) (list items : List (Cell × Option ℕ)) → IsWellFormed start → DiffersInEntries start now → IsPart part (entries_of start) → IsListOf start part items → list ≡ items → All (CanBeWritten now.grid) list
good_by start now part list items formed differs is_part is same =
    All-same (CanBeWritten now.grid) list items same
    (All-weaker (CanBeWritten start.grid) (CanBeWritten now.grid) (λ written can. (differs_open start now written.0 differs ∙ can.0, can.1)) items (list_good start part items formed is_part is))

pub written_by : (start now later : State) (part : List (Option ℕ)) (list items : List (Cell × Option ℕ)) → DiffersInEntries start now → IsPart (entries_of now) (entries_of start) → IsPart part (entries_of start) → IsListOf start part items → list ≡ items
    → entries_of later ≡ written_in (entries_of now) (by_index now.grid list) → entries_of later ≡ part
written_by start now later part list items differs now_part is_part is same written =
    written
    ∙ ap (λ (s : State). written_in (entries_of now) (by_index s.grid list)) differs
    ∙ ap (λ l. written_in (entries_of now) (by_index start.grid l)) same
    ∙ list_written start (entries_of now) part items now_part is_part is

-- all entries are written back
pub back_by : (start now later : State) (list items : List (Cell × Option ℕ)) → DiffersInEntries start now → IsPart (entries_of now) (entries_of start) → IsListOf start (entries_of start) items → list ≡ items
    → entries_of later ≡ written_in (entries_of now) (by_index now.grid list) → DiffersInEntries now later → later ≡ start
back_by start now later list items differs now_part is same written rest =
    same_entries start later (DiffersInEntries-then start now later differs rest)
    (written_by start now later (entries_of start) list items differs now_part (IsPart-itself (entries_of start)) is same written)

-- ---- reasons

-- no entry is needed
pub reason_none : (start now : State) (light : ℕ) → DiffersInEntries start now → entries_of now ≡ no_entries (entries_of start) → lacks_words (position_of now) light ≡ true → IsReason (position_of start) light (entries_of now)
reason_none start now light differs is dead = subst (IsReason (position_of start) light) (sym is) (record {
  part = IsPart-none (entries_of start);
  dead = sym (lacks_at start now light (no_entries (entries_of start)) differs is) ∙ dead;
  minimal = λ cell letter h. let none = no_entry (entries_of start) cell in cc;
  least = λ h. refl;
})

pub reason_some : (start empty now : State) (light : ℕ) (list : List (Cell × Option ℕ)) → IsListOf start (entries_of start) list
    → DiffersInEntries start empty → entries_of empty ≡ no_entries (entries_of start) → lacks_words (position_of empty) light ≡ false
    → DiffersInEntries start now → IsPart (entries_of now) (entries_of start) → lacks_words (position_of now) light ≡ true
    → All (λ written. IsNeeded (position_of start) light (entries_of now) (index_of start.grid written.0)) list
    → IsReason (position_of start) light (entries_of now)
reason_some start empty now light list is empty_rest emptied alive rest part dead needed = record {
  part = part;
  dead = sym (lacks_at start now light (entries_of now) rest refl) ∙ dead;
  minimal = λ cell letter h.
      let there = is.all cell letter (part.kept cell letter h) in
      let here = All-contains (λ written. IsNeeded (position_of start) light (entries_of now) (index_of start.grid written.0)) list (cell_at start.grid cell, entry_in (entries_of start) cell) needed there in
      subst (λ index. IsNeeded (position_of start) light (entries_of now) index) (index_of-cell_at start.grid cell) here letter h;
  least = λ h. absurd (false≢true (sym alive ∙ lacks_at start empty light (no_entries (entries_of start)) empty_rest emptied ∙ h));
}

-- some of the entries were written back, and then those left out that can be spared
pub reason_spared : (start empty some now : State) (light : ℕ) (list : List (Cell × Option ℕ)) → IsListOf start (entries_of start) list
    → DiffersInEntries start empty → entries_of empty ≡ no_entries (entries_of start) → lacks_words (position_of empty) light ≡ false
    → DiffersInEntries start some → IsPart (entries_of some) (entries_of start)
    → DiffersInEntries some now → IsPart (entries_of now) (entries_of some) → lacks_words (position_of now) light ≡ true
    → All (λ written. IsNeeded (position_of some) light (entries_of now) (index_of some.grid written.0)) list
    → IsReason (position_of start) light (entries_of now)
reason_spared start empty some now light list is empty_rest emptied alive some_rest some_part rest part dead needed =
    reason_some start empty now light list is empty_rest emptied alive
    (DiffersInEntries-then start some now some_rest rest)
    (IsPart-then (entries_of start) (entries_of some) (entries_of now) some_part part)
    dead
    (needed_from start some light (entries_of now) list some_rest needed)

-- ---- entries that come back, the nearest first

-- some entries are back: those from an index on, and all of them at index 0
pub record AreBack (start : State) (now : State) : Type 0 where
  pub rest : DiffersInEntries start now
  pub part : IsPart (entries_of now) (entries_of start)

pub back-more : (start now later : State) (list : List (Cell × Option ℕ)) (from : ℕ) → IsListOf start (entries_of start) list → AreBack start now
    → entries_of later ≡ written_in (entries_of now) (by_index now.grid (drop from list)) → DiffersInEntries now later → AreBack start later
back-more start now later list from is back written rest = record {
  rest = DiffersInEntries-then start now later back.rest rest;
  part = subst (λ entries. IsPart entries (entries_of start)) (sym (written ∙ ap (λ (s : State). written_in (entries_of now) (by_index s.grid (drop from list))) back.rest))
      (list_part_from start (entries_of now) list from is back.part);
}

-- with all entries back, the light has no word
pub back-all : (start now later : State) (light : ℕ) (list : List (Cell × Option ℕ)) (from : ℕ) → IsListOf start (entries_of start) list → AreBack start now → lacks_words (position_of start) light ≡ true
    → entries_of later ≡ written_in (entries_of now) (by_index now.grid (drop from list)) → DiffersInEntries now later → from ≡ 0 → lacks_words (position_of later) light ≡ true
back-all start now later light list from is back dead written rest first =
    ap (λ (s : State). lacks_words (position_of s) light) (back_by start now later (drop from list) list back.rest back.part is (ap (λ n. drop n list) first) written rest) ∙ dead
