-- What refutes a fill of the named lights, and what makes one.
use Rattle.std.proofs.Common.{◌≡◌, ◌≢◌, ℕ, zero, suc, ◌<◌, Bool, true, false, ◌&&◌, ◌||◌, ◌==◌, List, [], ◌∷◌, cond, map, length, get_or, set, Option, Some, None, refl, sym, ◌∙◌, ap, subst, arith, inl, inr}
use Rattle.std.specs.Prelude.{◌⊎◌, filter, is_none, is_some}
use Rattle.std.specs.List.{list_any}
use Rattle.std.proofs.lemmas.Bool.{and_parts, and_from, or_left, or_right, cases_Bool, cases_eq, false≢true, true≢false, eqb-true, eq-eqb}
use Rattle.std.proofs.lemmas.List.{get_or-map, length-map, length-set, get_or-set_same, get_or-set_other}
use Rattle.xw_letters.specs.Letter.{IsLetter, is_capital}
use Rattle.xw_letters.specs.LetterSet.{has}
use Rattle.xw_letters.proofs.LetterSetLemmas.{capital_is_letter}
use Rattle.xw_words.specs.Dictionary.{Dictionary, Entry, known_words}
use Rattle.xw_feas.specs.Board.{Board, is_open, allows, agrees, light_at, is_wholly_entered, spelled}
use Rattle.xw_feas.specs.Feasible.{Family, IsSupported, base_words, base_words_at}
use Rattle.xw_feas.specs.WellFormed.{HasLetterEntries}
use Rattle.xw_search.specs.Position.{Position, with_entries, holding}
use Rattle.xw_search.specs.FeasibleWords.{feasible_words, is_feasible_word}
use Rattle.xw_search.specs.FeasibleLetters.{is_feasible_letter}
use Rattle.xw_search.specs.Lights.{light_count, is_entered, spelling, lacks_words}
use Rattle.xw_search.specs.Listing.{IsActive}
use Rattle.xw_search.proofs.Shaped.{IsShaped}
use Rattle.xw_search.proofs.BelowLemmas.{Among, Among-contained, Contains-among, any_below-from, any_below-gives}
use Rattle.xw_search.proofs.FeasibleWordsLemmas.{feasible-gives, feasible-from, is_feasible_word-gives}
use Rattle.xw_search.proofs.FeasibleLettersLemmas.{is_feasible_letter-gives, is_feasible_letter-from}
use Rattle.xw_search.proofs.PlacingLemmas.{length-spelled, entered-at, entered-from, empty-at, spelled-at, spelled-same, spelled-is, agrees-length, agrees-at, agrees-from, allowed, allows-from}
use Rattle.xw_search.proofs.LightLemmas.{open_base, cells_within}
use Rattle.xw_search.proofs.FillLemmas.{active_base, entered_base, has_words}
use Rattle.xw_search.specs.NamedFill.{passes, is_in_named, entry_in, Keeps, IsChanged, IsFillOf}
use Rattle.xw_search.specs.Progress.{IsStacked, with_frame, is_target, is_watched, HasNone, IsEntered, IsOpen, IsFrame}
use Rattle.xw_search.specs.declared.frame.Frame.{Frame}

-- ---- lists

some_word : (words : List (List ℕ)) → (length words == 0) ≡ false → (word : List ℕ) × Among word words
some_word [] h = absurd (true≢false h)
some_word (word ∷ words) h = (word, inl refl)

-- a light that does not lack words has one
pub has_word : (position : Position) (light : ℕ) → lacks_words position light ≡ false → (word : List ℕ) × Among word (feasible_words position light)
has_word position light h = some_word (feasible_words position light) h

-- the light at an index passes through its cells
pub passes-from : (position : Position) (light k : ℕ) → k < length (light_at position.board light) → passes position light (get_or (light_at position.board light) k 0) ≡ true
passes-from position light k below = at (light_at position.board light) k below where
  at : (cells : List ℕ) (k : ℕ) → k < length cells → list_any (λ other. get_or cells k 0 == other) cells ≡ true
  at [] k below = absurd (omega arith)
  at (cell ∷ cells) zero below = or_left _ _ (eq-eqb cell cell refl)
  at (cell ∷ cells) (suc k) below = or_right _ _ (at cells k (omega arith))

pub any_at : (test : ℕ → Bool) (cells : List ℕ) (k : ℕ) → k < length cells → test (get_or cells k 0) ≡ true → list_any test cells ≡ true
any_at test [] k below h = absurd (omega arith)
any_at test (cell ∷ cells) zero below h = or_left _ _ h
any_at test (cell ∷ cells) (suc k) below h = or_right _ _ (any_at test cells k (omega arith) h)

pub any_where : (test : ℕ → Bool) (cells : List ℕ) → list_any test cells ≡ true → (k : ℕ) × (k < length cells) × (test (get_or cells k 0) ≡ true)
any_where test [] h = absurd (false≢true h)
any_where test (cell ∷ cells) h = elim (cases_Bool (test cell)) [
  | inl here ↦ (0, omega arith, here)
  | inr not_here ↦
      let rest : list_any test cells ≡ true = sym (ap (λ b. b || list_any test cells) not_here) ∙ h in
      let found = any_where test cells rest in
      (suc found.0, omega arith, found.2)
]

pub in_named-from : (named : ℕ → Bool) (position : Position) (light k : ℕ) → light < light_count position → named light ≡ true → k < length (light_at position.board light) → is_in_named named position (get_or (light_at position.board light) k 0) ≡ true
in_named-from named position light k in_grid is_named below =
    any_below-from (λ l. named l && passes position l (get_or (light_at position.board light) k 0)) (light_count position) light in_grid (and_from _ _ is_named (passes-from position light k below))

pub in_named-gives : (named : ℕ → Bool) (position : Position) (cell : ℕ) → is_in_named named position cell ≡ true → (light : ℕ) × (k : ℕ) × (light < light_count position) × (named light ≡ true) × (k < length (light_at position.board light)) × (get_or (light_at position.board light) k 0 ≡ cell)
in_named-gives named position cell h =
    let found = any_below-gives (λ l. named l && passes position l cell) (light_count position) h in
    let parts = and_parts (named found.0) (passes position found.0 cell) found.2 in
    let where_ = any_where (λ other. cell == other) (light_at position.board found.0) parts.1 in
    (found.0, where_.0, found.1, parts.0, where_.1, sym (eqb-true cell (get_or (light_at position.board found.0) where_.0 0) where_.2))

-- ---- base words

-- a wholly entered light has only the word that it spells
pub entered_only : (board : Board) (dictionary : Dictionary) (light : ℕ) (word : List ℕ) → light < length board.lights → is_wholly_entered board (light_at board light) ≡ true → Among word (base_words_at board dictionary light) → word ≡ spelled board (light_at board light)
entered_only board dictionary light word below entered among =
    let test : Entry → Bool = λ known. known.active && agrees board (light_at board light) known.word in
    let here : base_words_at board dictionary light ≡ spelled board (light_at board light) ∷ [] = get_or-map (base_words board dictionary) board.lights light [] [] below ∙ ap (λ b. cond b (spelled board (light_at board light) ∷ []) (map (λ (known : Entry). known.word) (filter test (known_words dictionary (length (light_at board light)))))) entered in
    only (subst (Among word) here among) where
      only : Among word (spelled board (light_at board light) ∷ []) → word ≡ spelled board (light_at board light)
      only (inl e) = sym e
      only (inr h) = absurd h

-- only lights of the board have base words
pub in_board : (board : Board) (dictionary : Dictionary) (light : ℕ) (word : List ℕ) → Among word (base_words_at board dictionary light) → light < length board.lights
in_board board dictionary light word among = let below = at (map (base_words board dictionary) board.lights) light among in omega (arith, length-map board.lights (base_words board dictionary), below) where
  at : (lists : List (List (List ℕ))) (n : ℕ) → Among word (get_or lists n []) → n < length lists
  at [] n h = absurd h
  at (list ∷ lists) zero h = omega arith
  at (list ∷ lists) (suc n) h = let below = at lists n h in omega arith

-- ---- positions with more entries

-- `then` has the entries `now` and more; each light that became wholly entered spells an active word
pub record IsBeyond (start : Position) (now then : List (Option ℕ)) : Type 0 where
  pub kept : Keeps now then
  pub active : (light : ℕ) → light < light_count start → is_entered (holding start now) light ≡ false → is_entered (holding start then) light ≡ true → IsActive start.words (spelling (holding start then) light)

module _ (start : Position) (now then : List (Option ℕ)) (beyond : IsBeyond start now then) where
  -- a light that was wholly entered still is, and spells the same
  stays_entered : (light : ℕ) → is_entered (holding start now) light ≡ true → is_entered (holding start then) light ≡ true
  stays_entered light entered = entered-from (with_entries start.board then) (light_at start.board light) (λ k below.
      let found = entered-at (with_entries start.board now) (light_at start.board light) entered k below in
      (found.0, beyond.kept (get_or (light_at start.board light) k 0) found.0 found.1))

  stays_spelled : (light : ℕ) → is_entered (holding start now) light ≡ true → spelling (holding start then) light ≡ spelling (holding start now) light
  stays_spelled light entered = spelled-same (with_entries start.board then) (with_entries start.board now) (light_at start.board light) (λ k below.
      let found = entered-at (with_entries start.board now) (light_at start.board light) entered k below in
      beyond.kept (get_or (light_at start.board light) k 0) found.0 found.1 ∙ sym found.1)

  -- a letter that the later entry allows, the earlier one allows
  allowed_before : (cell letter : ℕ) → allows (entry_in then cell) letter ≡ true → allows (entry_in now cell) letter ≡ true
  allowed_before cell letter h = allows-from (entry_in now cell) letter (λ entered e. allowed (entry_in then cell) entered letter (beyond.kept cell entered e) h)

  -- a base word of the later position is one of the earlier
  base_before : (light : ℕ) (word : List ℕ) → light < light_count start → Among word (base_words_at (with_entries start.board then) start.words light) → Among word (base_words_at (with_entries start.board now) start.words light)
  base_before light word in_grid among = elim (cases_Bool (is_entered (holding start now) light)) [
    | inl entered ↦
        let is = entered_only (with_entries start.board then) start.words light word in_grid (stays_entered light entered) among in
        subst (λ w. Among w (base_words_at (with_entries start.board now) start.words light)) (sym (is ∙ stays_spelled light entered)) (entered_base (with_entries start.board now) start.words light in_grid entered)
    | inr not_entered ↦ elim (cases_Bool (is_entered (holding start then) light)) [
      | inl entered ↦
          let is = entered_only (with_entries start.board then) start.words light word in_grid entered among in
          subst (λ w. Among w (base_words_at (with_entries start.board now) start.words light)) (sym is)
          (active_base (with_entries start.board now) start.words light (spelling (holding start then) light) in_grid not_entered (beyond.active light in_grid not_entered entered)
          (agrees_before light (spelling (holding start then) light) (spelling_agrees light entered)))
      | inr still ↦
          let base = open_base (with_entries start.board then) start.words light word in_grid still among in
          active_base (with_entries start.board now) start.words light word in_grid not_entered base.0 (agrees_before light word base.1)
    ]
  ] where
    agrees_before : (light : ℕ) (word : List ℕ) → agrees (with_entries start.board then) (light_at start.board light) word ≡ true → agrees (with_entries start.board now) (light_at start.board light) word ≡ true
    agrees_before light word h = agrees-from (with_entries start.board now) (light_at start.board light) word (agrees-length (with_entries start.board then) (light_at start.board light) word h) (λ k below.
        allowed_before (get_or (light_at start.board light) k 0) (get_or word k 0) (agrees-at (with_entries start.board then) (light_at start.board light) word h k below))

    spelling_agrees : (light : ℕ) → is_entered (holding start then) light ≡ true → agrees (with_entries start.board then) (light_at start.board light) (spelling (holding start then) light) ≡ true
    spelling_agrees light entered = agrees-from (with_entries start.board then) (light_at start.board light) (spelling (holding start then) light) (length-spelled (with_entries start.board then) (light_at start.board light)) (λ k below.
        let found = entered-at (with_entries start.board then) (light_at start.board light) entered k below in
        allows-from (entry_in then (get_or (light_at start.board light) k 0)) _ (λ letter e. let at = spelled-at (with_entries start.board then) (light_at start.board light) k letter below e in sym at))

  -- each family that supports itself later does so before
  family_before : (family : Family) → IsSupported (with_entries start.board then) start.words family → IsSupported (with_entries start.board now) start.words family
  family_before family supported = record {
    words_are_base = λ light word h.
        let base = Among-contained word (base_words_at (with_entries start.board then) start.words light) (supported.words_are_base light word h) in
        Contains-among word (base_words_at (with_entries start.board now) start.words light) (base_before light word (in_board (with_entries start.board then) start.words light word base) base);
    words_have_letters = supported.words_have_letters;
    letters_agree = λ cell letter h.
        let may = supported.letters_agree cell letter h in
        let parts = and_parts (is_open start.board cell && is_capital letter) (allows (entry_in then cell) letter) may in
        and_from _ _ parts.0 (allowed_before cell letter parts.1);
    letters_have_words = supported.letters_have_words;
  }

  pub word_before : (light : ℕ) (word : List ℕ) → is_feasible_word (holding start then) light word ≡ true → Among word (feasible_words (holding start now) light)
  word_before light word h =
      let found = is_feasible_word-gives (holding start then) light word h in
      feasible-from (holding start now) light word found.0 (family_before found.0 found.1) found.2

  -- a light that lacks words before lacks them later
  pub alive_before : (light : ℕ) → lacks_words (holding start then) light ≡ false → lacks_words (holding start now) light ≡ false
  alive_before light h =
      let some = has_word (holding start then) light h in
      has_words (holding start now) light some.0 (word_before light some.0 (feasible-gives (holding start then) light some.0 some.1).1)

-- ---- fills that keep some entries

-- a fill of the start is one of every position on the way to it
fill_beyond : (named : ℕ → Bool) (start : Position) (now fill : List (Option ℕ)) → IsEntered named start now → IsFillOf named start fill → Keeps now fill → IsBeyond start now fill
fill_beyond named start now fill entered is keeps = record {
  kept = keeps;
  active = λ light in_grid not_entered entered_then. is.words light in_grid (before light not_entered) entered_then;
} where
  before : (light : ℕ) → is_entered (holding start now) light ≡ false → is_entered start light ≡ false
  before light not_entered = elim (cases_Bool (is_entered start light)) [
    | inl was ↦ absurd (true≢false (sym (entered-from (with_entries start.board now) (light_at start.board light) (λ k below.
        let found = entered-at start.board (light_at start.board light) was k below in
        (found.0, entered.kept (get_or (light_at start.board light) k 0) found.0 found.1))) ∙ not_entered))
    | inr not_before ↦ not_before
  ]

pub target_parts : (named : ℕ → Bool) (start : Position) (cell : ℕ) → is_target named start cell ≡ true → (entry_in start.board.entries cell ≡ None) × (is_in_named named start cell ≡ true)
target_parts named start cell h =
    let parts = and_parts (is_none (entry_in start.board.entries cell)) (is_in_named named start cell) h in
    (none_there (entry_in start.board.entries cell) parts.0, parts.1) where
      none_there : (o : Option ℕ) → is_none o ≡ true → o ≡ None
      none_there None e = refl
      none_there (Some x) e = absurd (false≢true e)

-- the letter of a fill in a cell to be filled is feasible
pub fill_letter : (named : ℕ → Bool) (start : Position) (now fill : List (Option ℕ)) (cell : ℕ) → IsEntered named start now → IsFillOf named start fill → Keeps now fill → is_target named start cell ≡ true
    → (letter : ℕ) × (entry_in fill cell ≡ Some letter) × (is_feasible_letter (holding start now) cell letter ≡ true)
fill_letter named start now fill cell entered is keeps target =
    let beyond = fill_beyond named start now fill entered is keeps in
    let there = in_named-gives named start cell (target_parts named start cell target).1 in
    let light = there.0 in
    let k = there.1 in
    let in_grid = there.2 in
    let whole = is.entered light in_grid there.3 in
    let found = entered-at (with_entries start.board fill) (light_at start.board light) whole k there.4 in
    let some = has_word (holding start fill) light (is.alive light in_grid (inl there.3)) in
    let gives = feasible-gives (holding start fill) light some.0 some.1 in
    let word_is = entered_only (with_entries start.board fill) start.words light some.0 in_grid whole gives.0 in
    let family = is_feasible_word-gives (holding start fill) light some.0 gives.1 in
    let letter_is : get_or some.0 k 0 ≡ found.0 = ap (λ w. get_or w k 0) word_is ∙ spelled-at (with_entries start.board fill) (light_at start.board light) k found.0 there.4 found.1 in
    let stands = family.1.words_have_letters light some.0 family.2 k there.4 in (
      found.0,
      ap (entry_in fill) (sym there.5) ∙ found.1,
      is_feasible_letter-from (holding start now) cell found.0 family.0 (family_before start now fill beyond family.0 family.1)
          (subst (λ c. family.0.letters c found.0 ≡ true) there.5 (subst (λ x. family.0.letters (get_or (light_at start.board light) k 0) x ≡ true) letter_is stands)),
    )

-- a watched light is named, or has a new entry in every fill
pub watched_changes : (named : ℕ → Bool) (start : Position) (fill : List (Option ℕ)) (light : ℕ) → IsFillOf named start fill → is_watched named start light ≡ true → (named light ≡ true) ⊎ IsChanged start fill light
watched_changes named start fill light is watched = elim (cases_Bool (named light)) [
  | inl is_named ↦ inl is_named
  | inr not_named ↦
      let rest : list_any (is_target named start) (light_at start.board light) ≡ true = sym (ap (λ b. b || list_any (is_target named start) (light_at start.board light)) not_named) ∙ watched in
      let found = any_where (is_target named start) (light_at start.board light) rest in
      let cell = get_or (light_at start.board light) found.0 0 in
      let parts = target_parts named start cell found.2 in
      let there = in_named-gives named start cell parts.1 in
      let now = entered-at (with_entries start.board fill) (light_at start.board there.0) (is.entered there.0 there.2 there.3) there.1 there.4 in
      let some : entry_in fill cell ≡ Some now.0 = ap (entry_in fill) (sym there.5) ∙ now.1 in
      inr (found.0, found.1, λ e. some_none now.0 (sym some ∙ e ∙ parts.0))
] where
  some_none : (x : ℕ) → Some x ≡ None → ⊥
  some_none x e = let e' = e in cc

-- no fill keeps the entries if a watched light has no feasible word
pub dead_has_none : (named : ℕ → Bool) (start : Position) (now : List (Option ℕ)) (light : ℕ) → IsEntered named start now → light < light_count start → is_watched named start light ≡ true → lacks_words (holding start now) light ≡ true → HasNone named start now
dead_has_none named start now light entered in_grid watched lacks fill is keeps =
    let alive = alive_before start now fill (fill_beyond named start now fill entered is keeps) light (is.alive light in_grid (watched_changes named start fill light is watched)) in
    true≢false (sym lacks ∙ alive)

-- or if two lights spell the same
pub repeat_has_none : (named : ℕ → Bool) (start : Position) (now : List (Option ℕ)) (light other : ℕ) → IsEntered named start now → light < other → other < light_count start → is_entered (holding start now) light ≡ true → is_entered (holding start now) other ≡ true → spelling (holding start now) light ≡ spelling (holding start now) other → HasNone named start now
repeat_has_none named start now light other entered before in_grid whole whole_other same fill is keeps =
    let beyond = fill_beyond named start now fill entered is keeps in
    is.distinct light other before in_grid (stays_entered start now fill beyond light whole) (stays_entered start now fill beyond other whole_other)
    (stays_spelled start now fill beyond light whole ∙ same ∙ sym (stays_spelled start now fill beyond other whole_other))

-- a cell to be filled is on the board
pub target_within : (named : ℕ → Bool) (start : Position) (cell : ℕ) → IsShaped start.board → is_target named start cell ≡ true → cell < length start.board.entries
target_within named start cell shaped target =
    let there = in_named-gives named start cell (target_parts named start cell target).1 in
    subst (λ c. c < length start.board.entries) there.5 (cells_within start.board shaped there.0 there.1 there.4)

-- a fill keeps the entries and a letter if it has that letter
keeps_letter : (now fill : List (Option ℕ)) (cell letter : ℕ) → cell < length now → Keeps now fill → entry_in fill cell ≡ Some letter → Keeps (set now cell (Some letter)) fill
keeps_letter now fill cell letter within keeps at other x e = elim (cases_eq cell other) [
  | inl same ↦
      let here : Some letter ≡ Some x = sym (get_or-set_same now cell (Some letter) None within) ∙ ap (λ c. entry_in (set now cell (Some letter)) c) same ∙ e in
      ap (entry_in fill) (sym same) ∙ at ∙ here
  | inr apart ↦ keeps other x (sym (get_or-set_other now cell other (Some letter) None (λ e'. apart (sym e'))) ∙ e)
]

-- no fill keeps the entries if each feasible letter of a cell was refuted
pub exhausted_has_none : (named : ℕ → Bool) (start : Position) (now : List (Option ℕ)) (cell tried : ℕ) → IsShaped start.board → IsFrame named start now cell tried → ((letter : ℕ) → is_feasible_letter (holding start now) cell letter ≡ true → has tried letter ≡ true) → HasNone named start now
exhausted_has_none named start now cell tried shaped frame all fill is keeps =
    let entered = frame.is_open.entered in
    let found = fill_letter named start now fill cell entered is keeps frame.target in
    let within : cell < length now = omega (arith, entered.long, target_within named start cell shaped frame.target) in
    frame.refuted found.0 (all found.0 found.2) fill is (keeps_letter now fill cell found.0 within keeps found.1)

-- where no fill has the only feasible letter of a cell, there is none
pub only_has_none : (named : ℕ → Bool) (start : Position) (now : List (Option ℕ)) (frame : Frame) → IsShaped start.board → IsStacked named start now frame → frame.is_forced ≡ true → HasNone named start (with_frame now frame) → HasNone named start now
only_has_none named start now frame shaped stacked is none fill is_fill keeps =
    let entered = stacked.right.is_open.entered in
    let found = fill_letter named start now fill frame.cell entered is_fill keeps stacked.right.target in
    let within : frame.cell < length now = omega (arith, entered.long, target_within named start frame.cell shaped stacked.right.target) in
    none fill is_fill (keeps_letter now fill frame.cell frame.letter within keeps (found.1 ∙ ap Some (stacked.only is found.0 found.2)))

-- ---- one more letter

some_is_not_none : (o : Option ℕ) (x : ℕ) → o ≡ Some x → o ≡ None → ⊥
some_is_not_none o x e none = let both = sym e ∙ none in cc

-- a feasible letter in an empty cell to be filled keeps what holds of the entries
pub entered_letter : (named : ℕ → Bool) (start : Position) (now : List (Option ℕ)) (cell letter : ℕ) → IsShaped start.board → IsEntered named start now → is_target named start cell ≡ true → entry_in now cell ≡ None → is_feasible_letter (holding start now) cell letter ≡ true → IsEntered named start (set now cell (Some letter))
entered_letter named start now cell letter shaped entered target empty feasible =
    let parts = target_parts named start cell target in
    let family = is_feasible_letter-gives (holding start now) cell letter feasible in
    let may = family.1.letters_agree cell letter family.2 in
    let capital = (and_parts (is_open start.board cell) (is_capital letter) (and_parts (is_open start.board cell && is_capital letter) (allows (entry_in now cell) letter) may).0).1 in
    let within : cell < length now = omega (arith, entered.long, target_within named start cell shaped target) in
    record {
      long = length-set now cell (Some letter) ∙ entered.long;
      letters = λ other x e. elim (cases_eq cell other) [
        | inl same ↦
            let here : Some letter ≡ Some x = sym (get_or-set_same now cell (Some letter) None within) ∙ ap (λ c. entry_in (set now cell (Some letter)) c) same ∙ e in
            let is : letter ≡ x = cc in
            subst IsLetter is (capital_is_letter letter capital)
        | inr apart ↦ entered.letters other x (sym (get_or-set_other now cell other (Some letter) None (λ e'. apart (sym e'))) ∙ e)
      ];
      kept = λ other x e. elim (cases_eq cell other) [
        | inl same ↦ absurd (some_is_not_none (entry_in start.board.entries cell) x (ap (entry_in start.board.entries) same ∙ e) parts.0)
        | inr apart ↦ get_or-set_other now cell other (Some letter) None (λ e'. apart (sym e')) ∙ entered.kept other x e
      ];
      elsewhere = λ other outside. elim (cases_eq cell other) [
        | inl same ↦ absurd (true≢false (sym parts.1 ∙ ap (is_in_named named start) same ∙ outside))
        | inr apart ↦ get_or-set_other now cell other (Some letter) None (λ e'. apart (sym e')) ∙ entered.elsewhere other outside
      ];
      words = λ light in_grid not_before whole. elim (cases_Bool (is_entered (holding start now) light)) [
        | inl was ↦
            let same : spelling (holding start (set now cell (Some letter))) light ≡ spelling (holding start now) light = spelled-same (with_entries start.board (set now cell (Some letter))) (with_entries start.board now) (light_at start.board light) (λ k below.
            let found = entered-at (with_entries start.board now) (light_at start.board light) was k below in
            get_or-set_other now cell (get_or (light_at start.board light) k 0) (Some letter) None (λ e. some_is_not_none (entry_in now cell) found.0 (ap (entry_in now) (sym e) ∙ found.1) empty)) in
            subst (IsActive start.words) (sym same) (entered.words light in_grid not_before was)
        | inr not_yet ↦ completed light in_grid not_yet whole within family.0 family.1 family.2
      ];
    } where
      completed : (light : ℕ) → light < light_count start → is_entered (holding start now) light ≡ false → is_entered (holding start (set now cell (Some letter))) light ≡ true → cell < length now
          → (family : Family) → IsSupported (with_entries start.board now) start.words family → family.letters cell letter ≡ true → IsActive start.words (spelling (holding start (set now cell (Some letter))) light)
      completed light in_grid not_yet whole within family supported stands =
          let cells = light_at start.board light in
          let gap = empty-at (with_entries start.board now) cells not_yet in
          let filled = entered-at (with_entries start.board (set now cell (Some letter))) cells whole gap.0 gap.1 in
          let here : get_or cells gap.0 0 ≡ cell = elim (cases_eq cell (get_or cells gap.0 0)) [
            | inl same ↦ sym same
            | inr apart ↦ absurd (some_is_not_none (entry_in now (get_or cells gap.0 0)) filled.0 (sym (get_or-set_other now cell (get_or cells gap.0 0) (Some letter) None (λ e'. apart (sym e'))) ∙ filled.1) gap.2)
          ] in
          let word = supported.letters_have_words cell letter stands light gap.0 in_grid gap.1 here in
          let base = open_base (with_entries start.board now) start.words light word.0 in_grid not_yet (Among-contained word.0 (base_words_at (with_entries start.board now) start.words light) (supported.words_are_base light word.0 word.1)) in
          let same : spelling (holding start (set now cell (Some letter))) light ≡ word.0 = spelled-is (with_entries start.board (set now cell (Some letter))) cells word.0 (agrees-length (with_entries start.board now) cells word.0 base.1) (λ k below. elim (cases_eq cell (get_or cells k 0)) [
            | inl at ↦
                let pos : k ≡ gap.0 = shaped.distinct light k gap.0 below gap.1 (sym at ∙ sym here) in
                ap (entry_in (set now cell (Some letter))) (sym at) ∙ get_or-set_same now cell (Some letter) None within ∙ ap Some (sym word.2) ∙ ap (λ j. Some (get_or word.0 j 0)) (sym pos)
            | inr apart ↦
                let there = entered-at (with_entries start.board (set now cell (Some letter))) cells whole k below in
                let before : entry_in now (get_or cells k 0) ≡ Some there.0 = sym (get_or-set_other now cell (get_or cells k 0) (Some letter) None (λ e'. apart (sym e'))) ∙ there.1 in
                there.1 ∙ ap Some (allowed (entry_in now (get_or cells k 0)) there.0 (get_or word.0 k 0) before (agrees-at (with_entries start.board now) cells word.0 base.1 k below))
          ]) in
          subst (IsActive start.words) (sym same) base.0

-- ---- the start and the end

pub entered_start : (named : ℕ → Bool) (start : Position) → HasLetterEntries start.board → IsEntered named start start.board.entries
entered_start named start letters = record {
  long = refl;
  letters = letters;
  kept = λ cell letter e. e;
  elsewhere = λ cell outside. refl;
  words = λ light in_grid not_entered entered. absurd (false≢true (sym not_entered ∙ entered));
}

-- where no cell is left to be filled, the entries are a fill
pub open_is_fill : (named : ℕ → Bool) (start : Position) (now : List (Option ℕ)) → IsOpen named start now → ((cell : ℕ) → is_target named start cell ≡ true → is_some (entry_in now cell) ≡ true) → IsFillOf named start now
open_is_fill named start now is filled = record {
  letters = is.entered.letters;
  kept = is.entered.kept;
  elsewhere = is.entered.elsewhere;
  entered = λ light in_grid is_named. entered-from (with_entries start.board now) (light_at start.board light) (λ k below. whole light k in_grid is_named below);
  words = is.entered.words;
  distinct = is.distinct;
  alive = λ light in_grid why. is.alive light in_grid (watched light why);
} where
  value : (o : Option ℕ) → is_some o ≡ true → (x : ℕ) × (o ≡ Some x)
  value None h = absurd (false≢true h)
  value (Some x) h = (x, refl)

  whole : (light k : ℕ) → light < light_count start → named light ≡ true → k < length (light_at start.board light) → (x : ℕ) × (entry_in now (get_or (light_at start.board light) k 0) ≡ Some x)
  whole light k in_grid is_named below = split (entry_in start.board.entries (get_or (light_at start.board light) k 0)) refl where
    split : (o : Option ℕ) → entry_in start.board.entries (get_or (light_at start.board light) k 0) ≡ o → (x : ℕ) × (entry_in now (get_or (light_at start.board light) k 0) ≡ Some x)
    split (Some x) e = (x, is.entered.kept (get_or (light_at start.board light) k 0) x e)
    split None e = value (entry_in now (get_or (light_at start.board light) k 0)) (filled (get_or (light_at start.board light) k 0) (and_from _ _ (ap is_none e) (in_named-from named start light k in_grid is_named below)))

  watched : (light : ℕ) → (named light ≡ true) ⊎ IsChanged start now light → is_watched named start light ≡ true
  watched light (inl is_named) = or_left _ _ is_named
  watched light (inr changed) =
      let cell = get_or (light_at start.board light) changed.0 0 in
      or_right (named light) _ (any_at (is_target named start) (light_at start.board light) changed.0 changed.1 (target cell (entry_in start.board.entries cell) refl changed.2)) where
        target : (cell : ℕ) (o : Option ℕ) → entry_in start.board.entries cell ≡ o → (entry_in now cell ≢ entry_in start.board.entries cell) → is_target named start cell ≡ true
        target cell (Some x) e differs = absurd (differs (is.entered.kept cell x e ∙ sym e))
        target cell None e differs = elim (cases_Bool (is_in_named named start cell)) [
          | inl inside ↦ and_from _ _ (ap is_none e) inside
          | inr outside ↦ absurd (differs (is.entered.elsewhere cell outside))
        ]
