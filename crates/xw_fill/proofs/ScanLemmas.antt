-- Lemmas on the scans of an engine's lights.
use Rattle.std.proofs.Common.{◌≡◌, ℕ, zero, suc, ◌+◌, ◌<◌, ◌≤◌, Bool, true, false, cond, not, ◌||◌, List, [], ◌∷◌, ◌++◌, length, get_or, set, drop, Option, Some, None, refl, sym, ◌∙◌, ap, subst, arith, add-one}
use Rattle.std.specs.Prelude.{Result, Ok, is_some, is_none}
use Rattle.std.proofs.lemmas.Bool.{true≢false, false≢true, eq-eqb, lt-ltb, le-ltb}
use Rattle.xw_grid.specs.declared.cell.Cell.{Cell}
use Rattle.xw_grid.specs.declared.lights.Light.{Light}
use Rattle.xw_grid.specs.Grid.{Grid, IsGrid, is_open}
use Rattle.xw_grid.specs.Light.{lights_of, step, no_light}
use Rattle.xw_grid.specs.Edit.{set_entry, with_entry}
use Rattle.xw_feas.specs.State.{State, list_written, with_grid, by_fault, then_write, write_list}
use Rattle.xw_feas.proofs.ShapeLemmas.{open_takes}
use Rattle.xw_feas.proofs.WriteLemmas.{write_list-push}
use Rattle.xw_feas.proofs.EditsLemmas.{edit_done}
use Rattle.xw_search.proofs.StateLemmas.{IsGrid-entry, light_size, differs_open}
use Rattle.xw_fill.proofs.StateLemmas.{clearing, light_cell_at, differs_index, IsPartly, IsPartly-itself, IsPartly-then}
use Rattle.xw_feas.specs.Board.{board_of, light_at}
use Rattle.xw_feas.specs.declared.edit.Refusal.{Refusal}
use Rattle.xw_feas.specs.Feasible.{Answers}
use Rattle.xw_search.specs.Position.{Position, position_of, holding, DiffersInEntries}
use Rattle.xw_feas.specs.Engine.{IsEdited}
use Rattle.xw_feas.specs.declared.changed.Changed.{Changed}
use Rattle.xw_fill.specs.declared.trial.Trial.{Trial}
use Rattle.xw_search.specs.Below.{any_below}
use Rattle.xw_search.specs.FeasibleWords.{feasible_words}
use Rattle.xw_search.specs.Lights.{light_count, is_entered, is_repeat, lacks_words}
use Rattle.xw_fill.specs.Search.{is_dead, chosen_below, chosen}
use Rattle.xw_fill.specs.Filling.{scanned, outlook, next_of, unless_repeated}
use Rattle.xw_fill.specs.declared.scan.Scan.{Scan}
use Rattle.xw_fill.specs.declared.scan.Scan.TheVariants.{Blocked, Open}
use Rattle.xw_fill.specs.declared.search.Next.TheVariants.{Spent}
use Rattle.xw_fill.specs.Inner.Trial.{without_letters, taken_back}
use Rattle.xw_search.proofs.BelowLemmas.{any_below-from}

-- a light with 0 feasible words
pub lacks_words-none : (state : Position) (light count : ℕ) → count ≡ length (feasible_words state light) → count ≡ 0 → lacks_words state light ≡ true
lacks_words-none state light count e none = eq-eqb (length (feasible_words state light)) 0 (sym e ∙ none)

-- the chosen light among one more light
pub chosen-entered : (state : Position) (n : ℕ) → is_entered state n ≡ true → chosen_below state (n + 1) ≡ chosen_below state n
chosen-entered state n e = rw add-one (rw e refl)

chosen-first : (state : Position) (n : ℕ) → is_entered state n ≡ false → chosen_below state n ≡ None → chosen_below state (n + 1) ≡ Some n
chosen-first state n e none = rw add-one (rw (e, none) refl)

chosen-kept : (state : Position) (n best : ℕ) → is_entered state n ≡ false → chosen_below state n ≡ Some best → length (feasible_words state best) ≤ length (feasible_words state n) → chosen_below state (n + 1) ≡ Some best
chosen-kept state n best e before more = rw add-one (rw (e, before) (ap (λ b. Some (cond b n best)) (le-ltb (length (feasible_words state n)) (length (feasible_words state best)) more)))

chosen-fewer : (state : Position) (n best : ℕ) → is_entered state n ≡ false → chosen_below state n ≡ Some best → length (feasible_words state n) < length (feasible_words state best) → chosen_below state (n + 1) ≡ Some n
chosen-fewer state n best e before fewer = rw add-one (rw (e, before) (ap (λ b. Some (cond b n best)) (lt-ltb (length (feasible_words state n)) (length (feasible_words state best)) fewer)))

pub chosen-better : (state : Position) (n : ℕ) (best : Option ℕ) (fewest count : ℕ) → is_entered state n ≡ false → chosen_below state n ≡ best → ((light : ℕ) → best ≡ Some light → fewest ≡ length (feasible_words state light)) → count ≡ length (feasible_words state n) → (is_some best ≡ true → count < fewest) → chosen_below state (n + 1) ≡ Some n
chosen-better state n None fewest count e before known is less = chosen-first state n e before
chosen-better state n (Some light) fewest count e before known is less = chosen-fewer state n light e before (omega (arith, known light refl, is, less refl))

pub chosen-as_good : (state : Position) (n : ℕ) (best : Option ℕ) (fewest count : ℕ) → is_entered state n ≡ false → chosen_below state n ≡ best → ((light : ℕ) → best ≡ Some light → fewest ≡ length (feasible_words state light)) → count ≡ length (feasible_words state n) → is_some best ≡ true → fewest ≤ count → chosen_below state (n + 1) ≡ best
chosen-as_good state n None fewest count e before known is some more = absurd (false≢true some)
chosen-as_good state n (Some light) fewest count e before known is some more = chosen-kept state n light e before (omega (arith, known light refl, is, more))

-- the result of a scan
pub scanned-blocked : (state : Position) (light : ℕ) → light < light_count state → lacks_words state light ≡ true → scanned state ≡ Blocked
scanned-blocked state light in_grid lacks = ap (λ b. cond b Blocked (Open (chosen state))) (any_below-from (lacks_words state) (light_count state) light in_grid lacks)

pub scanned-open : (state : Position) (n : ℕ) (best : Option ℕ) → n ≡ light_count state → any_below (lacks_words state) n ≡ false → chosen_below state n ≡ best → scanned state ≡ Open best
unfolding chosen
scanned-open state n best all none is = ap (λ b. cond b Blocked (Open (chosen_below state (light_count state)))) (ap (any_below (lacks_words state)) (sym all) ∙ none) ∙ ap Open (ap (chosen_below state) (sym all) ∙ is)

-- the next step, from the result of a scan
abbrev chosen_by : Scan → Option ℕ
chosen_by Blocked = None
chosen_by (Open found) = found

abbrev is_blocked : Scan → Bool
is_blocked Blocked = true
is_blocked (Open found) = false

outlook_parts : (state : Position) → outlook state ≡ cond (any_below (lacks_words state) (light_count state)) Spent (unless_repeated (any_below (is_repeat state) (light_count state)) (chosen state))
unfolding is_dead
outlook_parts state = split (any_below (lacks_words state) (light_count state)) where
  split : (b : Bool) → cond (b || any_below (is_repeat state) (light_count state)) Spent (next_of (chosen state)) ≡ cond b Spent (unless_repeated (any_below (is_repeat state) (light_count state)) (chosen state))
  split true = refl
  split false = refl

pub outlook-blocked : (state : Position) (found : Scan) → found ≡ scanned state → found ≡ Blocked → outlook state ≡ Spent
outlook-blocked state found is e = outlook_parts state ∙ split (any_below (lacks_words state) (light_count state)) (sym is ∙ e) where
  split : (b : Bool) → cond b Blocked (Open (chosen state)) ≡ Blocked → cond b Spent (unless_repeated (any_below (is_repeat state) (light_count state)) (chosen state)) ≡ Spent
  split true h = refl
  split false h = absurd (false≢true (ap is_blocked h))

pub outlook-open : (state : Position) (found : Scan) (best : Option ℕ) (repeats : Bool) → found ≡ scanned state → found ≡ Open best → repeats ≡ any_below (is_repeat state) (light_count state) → outlook state ≡ unless_repeated repeats best
outlook-open state found best repeats is e again = outlook_parts state ∙ split (any_below (lacks_words state) (light_count state)) (sym is ∙ e) where
  split : (b : Bool) → cond b Blocked (Open (chosen state)) ≡ Open best → cond b Spent (unless_repeated (any_below (is_repeat state) (light_count state)) (chosen state)) ≡ unless_repeated repeats best
  split true h = absurd (true≢false (ap is_blocked h))
  split false h = rw (again, ap chosen_by h) refl

-- clearing one more cell
drop_nil : {X : Type 0} (k : ℕ) → drop {A = X} k [] ≡ []
drop_nil zero = refl
drop_nil (suc k) = refl

without_letters-suc : (entries : List (Option ℕ)) (cells : List ℕ) (blanks : List Bool) (k : ℕ) → k < length cells → without_letters entries (drop k cells) (drop k blanks) ≡ without_letters (cond (get_or blanks k false) (set entries (get_or cells k 0) None) entries) (drop (suc k) cells) (drop (suc k) blanks)
without_letters-suc entries [] blanks k below = absurd (omega arith)
without_letters-suc entries (cell ∷ cells) [] zero below = refl
without_letters-suc entries (cell ∷ cells) (blank ∷ blanks) zero below = refl
without_letters-suc entries (cell ∷ cells) [] (suc k) below = rw (drop_nil {X = Bool} k) at (without_letters-suc entries cells [] k (omega arith))
without_letters-suc entries (cell ∷ cells) (blank ∷ blanks) (suc k) below = without_letters-suc entries cells blanks k (omega arith)

without_letters-more : (entries : List (Option ℕ)) (cells : List ℕ) (blanks : List Bool) (k : ℕ) → k < length cells → without_letters entries (drop k cells) (drop k blanks) ≡ without_letters (cond (get_or blanks k false) (set entries (get_or cells k 0) None) entries) (drop (k + 1) cells) (drop (k + 1) blanks)
without_letters-more entries cells blanks k below = rw add-one (without_letters-suc entries cells blanks k below)

-- no cell is left to clear
pub without_letters-end : (entries : List (Option ℕ)) (cells : List ℕ) (k : ℕ) (blanks : List Bool) → length cells ≤ k → without_letters entries (drop k cells) blanks ≡ entries
without_letters-end entries [] k blanks all = rw (drop_nil {X = ℕ} k) refl
without_letters-end entries (cell ∷ cells) zero blanks all = absurd (omega arith)
without_letters-end entries (cell ∷ cells) (suc k) blanks all = without_letters-end entries cells k blanks (omega arith)

-- the list of cells to clear, after the first cells of the light
pub record IsTakingBack (before : State) (light : ℕ) (blanks : List Bool) (list : List (Cell × Option ℕ)) (pos : ℕ) : Type 0 where
  pub grid : Grid
  pub written : write_list list before.grid ≡ Ok grid
  pub is : IsGrid grid
  pub entries : without_letters (board_of grid).entries (drop pos (light_at (board_of before.grid) light)) (drop pos blanks) ≡ without_letters (board_of before.grid).entries (light_at (board_of before.grid) light) blanks
  pub partly : IsPartly before (record before { grid = grid })

pub take_back-init : (before : State) (light : ℕ) (blanks : List Bool) → IsGrid before.grid → IsTakingBack before light blanks [] 0
take_back-init before light blanks is = record { grid = before.grid; written = refl; is = is; entries = refl; partly = IsPartly-itself before }

-- one more cell of the light is added to the list
pub take_back-step : (before : State) (light pos : ℕ) (found : Light) (blanks : List Bool) (list : List (Cell × Option ℕ)) (cell : Cell) → IsTakingBack before light blanks list pos
    → light < length (lights_of before.grid) → found ≡ get_or (lights_of before.grid) light no_light → pos < found.size → cell ≡ step found.name.direction found.start pos
    → get_or blanks pos false ≡ true → IsTakingBack before light blanks (list ++ (cell, None) ∷ []) (pos + 1)
take_back-step before light pos found blanks list cell so_far in_grid found_is within cell_is blank =
    let now : State = record before { grid = so_far.grid } in
    let cells = light_at (board_of before.grid) light in
    let at = light_cell_at before.grid light pos found cell in_grid found_is within cell_is in
    let below : pos < length cells = omega (arith, light_size before.grid light found in_grid found_is, within) in
    let opened : is_open so_far.grid cell ≡ true = differs_open before now cell so_far.partly.1 ∙ at.0 in
    let done = clearing now cell so_far.is opened in
    let entries : (board_of (with_entry so_far.grid cell None)).entries ≡ set (board_of so_far.grid).entries (get_or cells pos 0) None =
    ap (λ p. p.board.entries) done.0 ∙ ap (λ c. set (board_of so_far.grid).entries c None) (differs_index before now cell so_far.partly.1 ∙ at.1) in
    record {
      grid = with_entry so_far.grid cell None;
      written = write_list-push list before.grid (cell, None) ∙ ap (then_write (λ g. set_entry g cell None)) so_far.written ∙ open_takes so_far.grid cell None opened;
      is = IsGrid-entry so_far.grid cell None tt so_far.is;
      entries =
          ap (λ es. without_letters es (drop (pos + 1) cells) (drop (pos + 1) blanks)) (entries ∙ sym (ap (λ b. cond b (set (board_of so_far.grid).entries (get_or cells pos 0) None) (board_of so_far.grid).entries) blank))
          ∙ sym (without_letters-more (board_of so_far.grid).entries cells blanks pos below)
          ∙ so_far.entries;
      partly = IsPartly-then before now (record before { grid = with_entry so_far.grid cell None }) so_far.partly done;
    }

pub take_back-pass : (before : State) (light pos : ℕ) (blanks : List Bool) (list : List (Cell × Option ℕ)) → IsTakingBack before light blanks list pos → pos < length (light_at (board_of before.grid) light) → get_or blanks pos false ≡ false → IsTakingBack before light blanks list (pos + 1)
take_back-pass before light pos blanks list so_far below not_blank =
    let cells = light_at (board_of before.grid) light in
    let entries = (board_of so_far.grid).entries in
    record {
      grid = so_far.grid;
      written = so_far.written;
      is = so_far.is;
      entries =
          ap (λ b. without_letters (cond b (set entries (get_or cells pos 0) None) entries) (drop (pos + 1) cells) (drop (pos + 1) blanks)) (sym not_blank)
          ∙ sym (without_letters-more entries cells blanks pos below)
          ∙ so_far.entries;
      partly = so_far.partly;
    }

-- writing the list undoes the placement
pub take_back-end : (before now : State) (answers_before answers_now : Answers) (trial : Trial) (list : List (Cell × Option ℕ)) (pos : ℕ) (result : Result Changed Refusal) → IsTakingBack before trial.light trial.blanks list pos
    → length (light_at (board_of before.grid) trial.light) ≤ pos → IsEdited before answers_before (list_written list) result now answers_now
    → (position_of now ≡ taken_back (position_of before) trial) × DiffersInEntries before now
take_back-end before now answers_before answers_now trial list pos result so_far all edited =
    let done = edit_done before now (record before { grid = so_far.grid }) answers_before answers_now (list_written list) result (ap (λ r. with_grid before (by_fault r)) so_far.written) refl edited in (
      ap position_of done ∙ so_far.partly.0 ∙ ap (holding (position_of before)) (sym (without_letters-end _ _ pos _ all) ∙ so_far.entries),
      subst (DiffersInEntries before) (sym done) so_far.partly.1,
    )

-- an option that is None
pub none_is : {A : Type 0} (o : Option A) (b : Bool) → is_some o ≡ not b → b ≡ is_none o
none_is None true h = refl
none_is None false h = absurd (false≢true h)
none_is (Some x) true h = absurd (true≢false h)
none_is (Some x) false h = refl
