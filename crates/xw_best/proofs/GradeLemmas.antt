-- Fills with the words of a grade and better.
use Rattle.std.proofs.Common.{◌≡◌, ◌≢◌, ℕ, suc, ◌<◌, ◌≤◌, Bool, true, false, not, List, get_or, Option, Some, None, refl, sym, ◌∙◌, ap, subst, arith, inl, inr}
use Rattle.std.specs.Prelude.{◌⊎◌, is_none, Result, Ok, Err, IfOk, OnErr}
use Rattle.std.proofs.lemmas.Bool.{cases_Bool, and_from, or_left, or_right, true≢false, false≢true}
use Rattle.xw_words.specs.Dictionary.{Dictionary, best_grade, with_least}
use Rattle.xw_feas.specs.Board.{Board, light_at, is_wholly_entered}
use Rattle.xw_feas.specs.Feasible.{Family, IsSupported, base_words_at}
use Rattle.xw_feas.specs.State.{State}
use Rattle.xw_feas.specs.WellFormed.{HasLetterEntries, IsWellFormed}
use Rattle.xw_search.specs.Position.{Position, position_of, with_entries, holding, filled_in, DiffersInEntries}
use Rattle.xw_search.specs.Lights.{light_count, is_entered, spelling, lacks_words}
use Rattle.xw_search.specs.Listing.{IsActive}
use Rattle.xw_search.specs.NamedFill.{flags, is_in_named, entry_in, Keeps, IsChanged, IsFillOf, IsAutofilled}
use Rattle.xw_best.specs.Best.{at_least, IsFillAt, HasNoneAt, IsFilledAt, FillsReachDown}
use Rattle.xw_search.specs.declared.filling.Filling.{Filling}
use Rattle.xw_search.specs.declared.filling.Filling.TheVariants.{Filled, NoFill, Limit}
use Rattle.xw_search.specs.Progress.{entries_of, HasEntered, is_target, is_watched, AreAlive, IsPlan}
use Rattle.xw_search.specs.declared.plan.Plan.{Plan}
use Rattle.xw_best.specs.declared.best.probe.Prober.{Prober}
use Rattle.xw_best.specs.Inner.Climbing.{DiffersInLeast, IsDeadAt, AreAliveAt, AreActiveAt, AreFresh, IsProber}
use Rattle.xw_search.proofs.BelowLemmas.{Among, Among-contained, Contains-among}
use Rattle.xw_search.proofs.FeasibleWordsLemmas.{feasible-gives, feasible-from, is_feasible_word-gives}
use Rattle.xw_search.proofs.LightLemmas.{open_base}
use Rattle.xw_search.proofs.FillLemmas.{active_base, entered_base, has_words}
use Rattle.xw_search.proofs.NamedFills.{entered_only, in_board, has_word, any_at, entered_start, watched_changes}
use Rattle.xw_search.proofs.LetterSearch.{refuted_has_none, position_at}
use Rattle.xw_feas.specs.Snapshot.{CanSave}
use Rattle.xw_feas.proofs.SnapshotLemmas.{with_least-again, CanSave-itself, CanSave-then, CanSave-least}
use Rattle.xw_search.proofs.StateLemmas.{CanSave-entries}
use Rattle.xw_best.proofs.LeastLemmas.{active_down, at_least-again, at_least-same}

-- the position with the words of a grade and better
abbrev pub at_grade : Position → ℕ → Position
at_grade position grade = record position { words = with_least grade position.words }

-- ---- more active words

module _ (board : Board) (words more : Dictionary) (further : (word : List ℕ) → IsActive words word → IsActive more word) where
  base_more : (light : ℕ) (word : List ℕ) → Among word (base_words_at board words light) → Among word (base_words_at board more light)
  base_more light word among =
      let in_grid = in_board board words light word among in
      elim (cases_Bool (is_wholly_entered board (light_at board light))) [
        | inl entered ↦ subst (λ w. Among w (base_words_at board more light)) (sym (entered_only board words light word in_grid entered among)) (entered_base board more light in_grid entered)
        | inr not_entered ↦
            let base = open_base board words light word in_grid not_entered among in
            active_base board more light word in_grid not_entered (further word base.0) base.1
      ]

  family_more : (family : Family) → IsSupported board words family → IsSupported board more family
  family_more family supported = record {
    words_are_base = λ light word h. Contains-among word (base_words_at board more light) (base_more light word (Among-contained word (base_words_at board words light) (supported.words_are_base light word h)));
    words_have_letters = supported.words_have_letters;
    letters_agree = supported.letters_agree;
    letters_have_words = supported.letters_have_words;
  }

  -- a light that has a feasible word has one among more words
  pub alive_more : (light : ℕ) → lacks_words (record { board = board; words = words }) light ≡ false → lacks_words (record { board = board; words = more }) light ≡ false
  alive_more light h =
      let before : Position = record { board = board; words = words } in
      let after : Position = record { board = board; words = more } in
      let some = has_word before light h in
      let found = is_feasible_word-gives before light some.0 (feasible-gives before light some.0 some.1).1 in
      has_words after light some.0 (feasible-from after light some.0 found.0 (family_more found.0 found.1) found.2)

-- a fill with the words of a grade and better is one with those of each lower grade
pub fill_down : (named : ℕ → Bool) (start : Position) (grade lower : ℕ) (entries : List (Option ℕ)) → lower ≤ grade → IsFillOf named (at_grade start grade) entries → IsFillOf named (at_grade start lower) entries
fill_down named start grade lower entries below is = record {
  letters = is.letters;
  kept = is.kept;
  elsewhere = is.elsewhere;
  entered = is.entered;
  words = λ light in_grid not_before whole. active_down start.words grade lower (spelling (holding (at_grade start grade) entries) light) below (is.words light in_grid not_before whole);
  distinct = is.distinct;
  alive = λ light in_grid why. alive_more (with_entries start.board entries) (with_least grade start.words) (with_least lower start.words) (λ word. active_down start.words grade lower word below) light (is.alive light in_grid (same why));
} where
  same : {light : ℕ} → (named light ≡ true) ⊎ IsChanged (at_grade start lower) entries light → (named light ≡ true) ⊎ IsChanged (at_grade start grade) entries light
  same (inl is_named) = inl is_named
  same (inr changed) = inr changed

pub fills_down : FillsReachDown
fills_down named state grade lower entries below is = fill_down named (position_of state) grade lower entries below is

-- no fill at a grade, so none above it
pub none_up : (named : ℕ → Bool) (state : State) (grade higher : ℕ) → grade ≤ higher → HasNoneAt named state grade → HasNoneAt named state higher
none_up named state grade higher below none entries fill = none entries (fills_down named state higher grade entries below fill)

-- ---- bounds

-- a watched light without a feasible word at a grade: no fill
pub dead_none : (named watched : List Bool) (state : State) (grade : ℕ) → HasLetterEntries (position_of state).board → ((light : ℕ) → light < light_count (position_of state) → flags watched light ≡ is_watched (flags named) (position_of state) light)
    → IsDeadAt (flags watched) state grade → HasNoneAt (flags named) state grade
dead_none named watched state grade letters are dead entries fill =
    refuted_has_none (flags named) (at_grade (position_of state) grade) (entries_of state) watched (entered_start (flags named) (at_grade (position_of state) grade) letters) are (inl dead) entries fill fill.kept

-- ---- the grades of a fill

-- each flagged light that is wholly entered spells a word of this grade or better
abbrev pub AreActiveIn : (ℕ → Bool) → Position → ℕ → Type 0
AreActiveIn flagged position grade = (light : ℕ) → light < light_count position → flagged light ≡ true → is_entered position light ≡ true → IsActive (with_least grade position.words) (spelling position light)

not_true : (b : Bool) → not b ≡ true → b ≡ false
not_true true e = absurd (false≢true e)
not_true false e = refl

-- a changed light passes through a cell that was to be filled
pub changed_watched : (named : ℕ → Bool) (start : Position) (now : List (Option ℕ)) (light : ℕ) → Keeps start.board.entries now → ((cell : ℕ) → is_in_named named start cell ≡ false → entry_in now cell ≡ entry_in start.board.entries cell)
    → (named light ≡ true) ⊎ IsChanged start now light → is_watched named start light ≡ true
changed_watched named start now light kept elsewhere (inl is_named) = or_left _ _ is_named
changed_watched named start now light kept elsewhere (inr changed) =
    let cell = get_or (light_at start.board light) changed.0 0 in
    or_right (named light) _ (any_at (is_target named start) (light_at start.board light) changed.0 changed.1 (target cell (entry_in start.board.entries cell) refl changed.2)) where
      target : (cell : ℕ) (o : Option ℕ) → entry_in start.board.entries cell ≡ o → (entry_in now cell ≢ entry_in start.board.entries cell) → is_target named start cell ≡ true
      target cell (Some x) e differs = absurd (differs (kept cell x e ∙ sym e))
      target cell None e differs = elim (cases_Bool (is_in_named named start cell)) [
        | inl inside ↦ and_from _ _ (ap is_none e) inside
        | inr outside ↦ absurd (differs (elsewhere cell outside))
      ]

-- the position with some entries and the words of a grade and better
abbrev pub at_grade_with : Position → ℕ → List (Option ℕ) → Position
at_grade_with start grade entries = holding (at_grade start grade) entries

-- entries that a fill at a grade made
module _ (named : ℕ → Bool) (start : Position) (fresh watched : List Bool) (grade : ℕ) (entries : List (Option ℕ)) where
  -- the words that a fill at another grade enters
  active_in : (other : ℕ) → AreFresh start fresh → IsFillOf named (at_grade start other) entries → AreActiveIn (flags fresh) (at_grade_with start grade entries) other
  active_in other is fill light in_grid flag whole =
      subst (λ words. IsActive words (spelling (at_grade_with start grade entries) light)) (sym (with_least-again start.words other grade))
      (fill.words light in_grid (not_true (is_entered start light) (sym (is.are light in_grid) ∙ flag)) whole)

  alive_in : (other : ℕ) → ((light : ℕ) → light < light_count start → flags watched light ≡ is_watched named start light) → IsFillOf named (at_grade start other) entries → AreAlive (flags watched) (at_grade (at_grade_with start grade entries) other)
  alive_in other are fill light in_grid flag =
      subst (λ (words : Dictionary). lacks_words (record { board = with_entries start.board entries; words = words }) light ≡ false) (sym (with_least-again start.words other grade))
      (fill.alive light in_grid (watched_changes named (at_grade start other) entries light fill (sym (are light in_grid) ∙ flag)))

  -- a fill at a grade is one at each other grade of its new words at which each watched light has a feasible word
  fill_in : (other : ℕ) → AreFresh start fresh → ((light : ℕ) → light < light_count start → flags watched light ≡ is_watched named start light) → IsFillOf named (at_grade start grade) entries
      → AreActiveIn (flags fresh) (at_grade_with start grade entries) other → AreAlive (flags watched) (at_grade (at_grade_with start grade entries) other) → IsFillOf named (at_grade start other) entries
  fill_in other is are fill active alive = record {
    letters = fill.letters;
    kept = fill.kept;
    elsewhere = fill.elsewhere;
    entered = fill.entered;
    words = λ light in_grid not_before whole.
        subst (λ words. IsActive words (spelling (at_grade_with start grade entries) light)) (with_least-again start.words other grade) (active light in_grid (is.are light in_grid ∙ ap not not_before) whole);
    distinct = fill.distinct;
    alive = λ light in_grid why.
        subst (λ (words : Dictionary). lacks_words (record { board = with_entries start.board entries; words = words }) light ≡ false) (with_least-again start.words other grade)
        (alive light in_grid (are light in_grid ∙ changed_watched named (at_grade start other) entries light fill.kept fill.elsewhere why));
  }

-- the state that a fill at a grade leads to
module _ (named fresh watched : List Bool) (before now : State) (grade : ℕ) (is : AreFresh (position_of before) fresh)
    (are : (light : ℕ) → light < light_count (position_of before) → flags watched light ≡ is_watched (flags named) (position_of before) light)
    (fill : IsFillAt (flags named) before grade (entries_of now)) (differs : DiffersInEntries (at_least before grade) now) where
  led : position_of now ≡ at_grade_with (position_of before) grade (entries_of now)
  led = position_at (at_least before grade) now differs

  pub active_now : (other : ℕ) → IsFillAt (flags named) before other (entries_of now) → AreActiveAt (flags fresh) now other
  active_now other there = subst (λ (p : Position). AreActiveIn (flags fresh) p other) (sym led) (active_in (flags named) (position_of before) fresh watched grade (entries_of now) other is there)

  pub alive_now : (other : ℕ) → IsFillAt (flags named) before other (entries_of now) → AreAliveAt (flags watched) now other
  alive_now other there = subst (λ (p : Position). AreAlive (flags watched) (at_grade p other)) (sym led) (alive_in (flags named) (position_of before) fresh watched grade (entries_of now) other are there)

  pub filled_now : (rest after : State) (least : ℕ) → IsWellFormed before → DiffersInLeast now rest → after ≡ at_least rest before.words.least → before.words.least ≤ grade → grade ≤ least → least ≤ best_grade
      → AreActiveAt (flags fresh) now least → AreAliveAt (flags watched) now least
      → IsDeadAt (flags watched) now (suc least) ⊎ ((other : ℕ) → other ≤ best_grade → AreActiveAt (flags fresh) now other → other ≤ least)
      → IsFilledAt (flags named) before after least
  filled_now rest after least formed further back left above graded active alive greatest = record {
    entries = entries_of now;
    fill = fill_in (flags named) (position_of before) fresh watched grade (entries_of now) least is are fill
        (subst (λ (p : Position). AreActiveIn (flags fresh) p least) led active)
        (subst (λ (p : Position). AreAlive (flags watched) (at_grade p least)) led alive);
    left = omega (arith, left, above);
    graded = graded;
    greatest = λ other more within there. elim greatest [
      | inl dead ↦
          let next = fill_down (flags named) (position_of before) other (suc least) (entries_of now) more there in
          let lives = alive_now (suc least) next dead.0 dead.1.0 dead.1.1 in
          true≢false (sym dead.1.2 ∙ lives)
      | inr most ↦ let below = most other within (active_now other there) in omega (arith, below, more)
    ];
    holds = back ∙ further before.words.least ∙ ap (λ s. at_least s before.words.least) differs
        ∙ ap (λ s. filled_in s (entries_of now)) (at_least-again before before.words.least grade ∙ at_least-same before formed);
  }

-- ---- a search with the words of a grade and better

-- a prober with the same plan, flags and least grade
pub served_more : (before now : Prober) (start : State) → IsProber before start → now.plan ≡ before.plan → now.fresh ≡ before.fresh → now.least ≡ before.least → IsProber now start
served_more before now start is plan fresh least = record {
  plan = subst (IsPlan (position_of start)) (sym plan) is.plan;
  fresh = subst (AreFresh (position_of start)) (sym (ap (λ vec. vec.items) fresh)) is.fresh;
  least = least ∙ is.least;
}

-- the plan for a state is one with another least grade
pub plan_at : (state : State) (grade : ℕ) (plan : Plan) → IsPlan (position_of state) plan → IsPlan (position_of (at_least state grade)) plan
plan_at state grade plan is = record {
  watched = record { long = is.watched.long; are = is.watched.are };
  targets = record { sound = is.targets.sound; all = is.targets.all };
  crossings = is.crossings;
}

-- what a search that found a fill left
pub found_at : {Fault : Type 0} (named : ℕ → Bool) (before made now : State) (grade : ℕ) (result : Result Filling Fault) → made ≡ at_least before grade → result ≡ Ok Filled → IfOk result (HasEntered named made now)
    → IsFillAt named before grade (entries_of now) × DiffersInEntries (at_least before grade) now
found_at {Fault} named before made now grade result made_is result_is entered =
    let has : HasEntered named made now Filled = subst (λ (r : Result Filling Fault). IfOk r (HasEntered named made now)) result_is entered in
    (subst (λ (s : State). IsFillOf named (position_of s) (entries_of now)) made_is has.0, subst (λ (s : State). DiffersInEntries s now) made_is has.1)

-- what a search that found that there is no fill shows
pub none_at : {Fault : Type 0} (named : ℕ → Bool) (before made now : State) (grade : ℕ) (result : Result Filling Fault) → made ≡ at_least before grade → result ≡ Ok NoFill → IfOk result (IsAutofilled named made now) → HasNoneAt named before grade
none_at {Fault} named before made now grade result made_is result_is is =
    let has : IsAutofilled named made now NoFill = subst (λ (r : Result Filling Fault). IfOk r (IsAutofilled named made now)) result_is is in
    λ entries fill. has.0 entries (subst (λ (s : State). IsFillOf named (position_of s) entries) (sym made_is) fill)

-- back to the least grade that there was
pub back_at : (before now after : State) (grade least : ℕ) → IsWellFormed before → least ≡ before.words.least → now ≡ at_least before grade → after ≡ at_least now least → after ≡ before
back_at before now after grade least formed least_is now_is after_is =
    after_is ∙ ap (λ s. at_least s least) now_is ∙ at_least-again before least grade ∙ ap (λ n. at_least before n) least_is ∙ at_least-same before formed

-- ---- parts

-- a snapshot of the state before a search can save the state after it, whatever it found
pub filling_saved : {Fault : Type 0} (named : ℕ → Bool) (before now : State) (result : Result Filling Fault) → IfOk result (HasEntered named before now) → IfOk result (IsAutofilled named before now) → OnErr result (now ≡ before) → CanSave before now
filling_saved named before now (Ok Filled) has is same = CanSave-entries before now has.1
filling_saved named before now (Ok NoFill) has is same = subst (CanSave before) (sym is.1) (CanSave-itself before)
filling_saved named before now (Ok Limit) has is same = subst (CanSave before) (sym is) (CanSave-itself before)
filling_saved named before now (Err failed) has is same = subst (CanSave before) (sym same) (CanSave-itself before)

-- the state with another least grade, and after a search there
pub saved_at : (before made now : State) (grade : ℕ) → made ≡ at_least before grade → CanSave made now → CanSave before now
saved_at before made now grade is can = CanSave-then before made now (subst (CanSave before) (sym is) (CanSave-least before grade)) can

-- a state that differs in the least grade from one that can be saved
pub saved_found : (before now rest after : State) (least : ℕ) → CanSave before now → DiffersInLeast now rest → after ≡ at_least rest least → CanSave before after
saved_found before now rest after least can differs after_is =
    CanSave-then before now after can (subst (CanSave now) (sym (after_is ∙ differs least)) (CanSave-least now least))
