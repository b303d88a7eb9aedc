-- The search finds a fill exactly if one exists, and it ends at one.
use Rattle.std.proofs.Common.{◌≡◌, ℕ, zero, suc, ◌<◌, ◌≤◌, Bool, true, false, cond, not, ◌&&◌, ◌||◌, List, [], ◌∷◌, length, get_or, Option, Some, None, refl, sym, ◌∙◌, ap, subst, arith, inl, inr}
use Rattle.std.specs.Prelude.{Contains, ◌==◌, nat_lt, is_none, bytes_eq}
use Rattle.std.specs.List.{list_any}
use Rattle.std.proofs.lemmas.Bool.{and_parts, and_from, cases_Bool, false≢true, cases_eq, eqb-true, eq-eqb, ltb-true, lt-ltb, not-true}
use Rattle.std.proofs.lemmas.Slice.Eq.{bytes_eq-Decides}
use Rattle.xw_feas.specs.Board.{entry, allows, agrees, light_at, is_open, spelled}
use Rattle.xw_feas.specs.Feasible.{Family, IsSupported, base_words_at}
use Rattle.xw_search.specs.Position.{Position, entries_with, placed, with_entries, holding}
use Rattle.xw_search.proofs.Shaped.{IsShaped}
use Rattle.xw_search.specs.Listing.{IsActive}
use Rattle.xw_fill.specs.Fill.{IsFill}
use Rattle.xw_search.specs.FeasibleWords.{feasible_words}
use Rattle.xw_feas.specs.WellFormed.{HasLetterEntries}
use Rattle.xw_search.specs.Lights.{light_count, is_entered, spelling}
use Rattle.xw_fill.specs.Search.{is_dead, chosen, found_by, found_in, end_of, end_by, end_in, unentered_count}
use Rattle.xw_letters.specs.Letter.{IsLetter, is_capital}
use Rattle.xw_letters.proofs.LetterSetLemmas.{letter_is_capital, capital_is_letter}
use Rattle.xw_search.proofs.BelowLemmas.{Among, Among-contained, Contains-among, list_any-from}
use Rattle.xw_search.proofs.FeasibleWordsLemmas.{feasible-gives, feasible-from, is_feasible_word-gives}
use Rattle.xw_search.proofs.PlacingLemmas.{entered-at, empty-at, length-spelled, spelled-at, spelled-same, spelled-is, agrees-length, agrees-at, agrees-from, allowed, allows-from, cell_in, entries_with-other, length-entries_with}
use Rattle.xw_fill.proofs.SearchLemmas.{chosen-Some, chosen-None, chosen-counted, alive-distinct, alive-from, open_feasible, placed-laid, placed-kept, placed-at, placed-entered, placed-fewer}
use Rattle.xw_search.proofs.LightLemmas.{open_base}
use Rattle.xw_search.proofs.FillLemmas.{active_base, entered_base, has_words}

-- ---- Every fill gives a supported family.

abbrev is_letter : Option ℕ → ℕ → Bool
is_letter None letter = false
is_letter (Some entered) letter = entered == letter

is_letter-gives : (o : Option ℕ) (letter : ℕ) → is_letter o letter ≡ true → o ≡ Some letter
is_letter-gives None letter h = absurd (false≢true h)
is_letter-gives (Some entered) letter h = ap Some (eqb-true entered letter h)

is_letter-from : (o : Option ℕ) (letter : ℕ) → o ≡ Some letter → is_letter o letter ≡ true
is_letter-from o letter e = ap (λ p. is_letter p letter) e ∙ eq-eqb letter letter refl

same_as_itself : (word : List ℕ) → bytes_eq word word ≡ true
same_as_itself word = (bytes_eq-Decides word word).1 refl

abbrev family_of_fill : Position → List (Option ℕ) → Family
family_of_fill position entries = record {
  words = λ light word. nat_lt light (light_count position) && bytes_eq word (spelled (with_entries position.board entries) (light_at position.board light));
  letters = λ cell letter. is_open position.board cell && is_letter (entry (with_entries position.board entries) cell) letter;
}

-- a light that was wholly entered spells the same in the fill
pub fill-spells : (position : Position) (entries : List (Option ℕ)) → IsFill position entries → (light : ℕ) → is_entered position light ≡ true → spelled (with_entries position.board entries) (light_at position.board light) ≡ spelling position light
fill-spells position entries fill light entered =
    spelled-same (with_entries position.board entries) position.board (light_at position.board light) (λ k below.
    let found = entered-at position.board (light_at position.board light) entered k below in
    fill.kept (get_or (light_at position.board light) k 0) found.0 found.1 ∙ sym found.1)

fill-at : (position : Position) (entries : List (Option ℕ)) → IsFill position entries → (light k : ℕ) → light < light_count position → k < length (light_at position.board light) → entry (with_entries position.board entries) (get_or (light_at position.board light) k 0) ≡ Some (get_or (spelled (with_entries position.board entries) (light_at position.board light)) k 0)
fill-at position entries fill light k in_grid below =
    let found = entered-at (with_entries position.board entries) (light_at position.board light) (fill.entered light in_grid) k below in
    found.1 ∙ ap Some (sym (spelled-at (with_entries position.board entries) (light_at position.board light) k found.0 below found.1))

-- the word of a light in the fill agrees with the light's entries
fill-agrees : (position : Position) (entries : List (Option ℕ)) → IsFill position entries → (light : ℕ) → light < light_count position → agrees position.board (light_at position.board light) (spelled (with_entries position.board entries) (light_at position.board light)) ≡ true
fill-agrees position entries fill light in_grid =
    agrees-from position.board (light_at position.board light) (spelled (with_entries position.board entries) (light_at position.board light)) (length-spelled (with_entries position.board entries) (light_at position.board light)) (λ k below.
    allows-from (entry position.board (get_or (light_at position.board light) k 0)) _ (λ entered e.
    let same = sym (fill.kept (get_or (light_at position.board light) k 0) entered e) ∙ fill-at position entries fill light k in_grid below in cc))

fill-base : (position : Position) (entries : List (Option ℕ)) → IsFill position entries → (light : ℕ) → light < light_count position → Among (spelled (with_entries position.board entries) (light_at position.board light)) (base_words_at position.board position.words light)
fill-base position entries fill light in_grid =
    elim (cases_Bool (is_entered position light)) [
      | inl entered ↦ subst (λ w. Among w (base_words_at position.board position.words light)) (sym (fill-spells position entries fill light entered)) (entered_base position.board position.words light in_grid entered)
      | inr not_entered ↦ active_base position.board position.words light _ in_grid not_entered (fill.words light in_grid not_entered) (fill-agrees position entries fill light in_grid)
    ]

pub fill_is_supported : (position : Position) (entries : List (Option ℕ)) → IsShaped position.board → IsFill position entries → IsSupported position.board position.words (family_of_fill position entries)
fill_is_supported position entries laid fill = record {
  words_are_base = λ light word h.
      let parts = and_parts (nat_lt light (light_count position)) (bytes_eq word (spelled (with_entries position.board entries) (light_at position.board light))) h in
      let is = (bytes_eq-Decides word (spelled (with_entries position.board entries) (light_at position.board light))).0 parts.1 in
      subst (Contains (base_words_at position.board position.words light)) (sym is) (Contains-among _ (base_words_at position.board position.words light) (fill-base position entries fill light (ltb-true light (light_count position) parts.0)));
  words_have_letters = λ light word h k below.
      let parts = and_parts (nat_lt light (light_count position)) (bytes_eq word (spelled (with_entries position.board entries) (light_at position.board light))) h in
      let is = (bytes_eq-Decides word (spelled (with_entries position.board entries) (light_at position.board light))).0 parts.1 in
      and_from _ _ (laid.cells_open light k below) (is_letter-from _ _ (fill-at position entries fill light k (ltb-true light (light_count position) parts.0) below ∙ ap (λ w. Some (get_or w k 0)) (sym is)));
  letters_agree = λ cell letter h.
      let parts = and_parts (is_open position.board cell) (is_letter (entry (with_entries position.board entries) cell) letter) h in
      let is = is_letter-gives (entry (with_entries position.board entries) cell) letter parts.1 in
      and_from _ _ (and_from _ _ parts.0 (letter_is_capital letter (fill.letters cell letter is))) (allows-from (entry position.board cell) letter (λ entered e. let same = sym (fill.kept cell entered e) ∙ is in cc));
  letters_have_words = λ cell letter h light k in_grid below at.
      let parts = and_parts (is_open position.board cell) (is_letter (entry (with_entries position.board entries) cell) letter) h in
      let is = is_letter-gives (entry (with_entries position.board entries) cell) letter parts.1 in (
        spelled (with_entries position.board entries) (light_at position.board light),
        and_from _ _ (lt-ltb light (light_count position) in_grid) (same_as_itself (spelled (with_entries position.board entries) (light_at position.board light))),
        spelled-at (with_entries position.board entries) (light_at position.board light) k letter below (ap (entry (with_entries position.board entries)) at ∙ is),
      );
}

-- every word of a fill is feasible, so the search misses no fill
pub fill_is_feasible : (position : Position) (entries : List (Option ℕ)) → IsShaped position.board → IsFill position entries → (light : ℕ) → light < light_count position → Among (spelled (with_entries position.board entries) (light_at position.board light)) (feasible_words position light)
fill_is_feasible position entries laid fill light in_grid =
    feasible-from position light _ (family_of_fill position entries) (fill_is_supported position entries laid fill) (and_from _ _ (lt-ltb light (light_count position) in_grid) (same_as_itself (spelled (with_entries position.board entries) (light_at position.board light))))

-- ---- If a fill exists, one is found.

fill-alive : (position : Position) (entries : List (Option ℕ)) → IsShaped position.board → IsFill position entries → is_dead position ≡ false
fill-alive position entries laid fill =
    alive-from position
    (λ light in_grid. has_words position light _ (fill_is_feasible position entries laid fill light in_grid))
    (λ other light below in_grid entered entered_other same. fill.distinct other light below in_grid
    (fill-spells position entries fill other entered_other ∙ sym same ∙ sym (fill-spells position entries fill light entered)))

-- a fill is still a fill after one of its words is placed
fill-placed : (position : Position) (entries : List (Option ℕ)) → IsShaped position.board → IsFill position entries → (light : ℕ) → light < light_count position → IsFill (placed position light (spelled (with_entries position.board entries) (light_at position.board light))) entries
fill-placed position entries laid fill light in_grid = record {
  letters = fill.letters;
  kept = λ cell letter e. elim (cell_in (light_at position.board light) cell) [
    | inl found ↦
        let now = placed-at position light word laid (length-spelled (with_entries position.board entries) (light_at position.board light)) found.0 found.1 in
        let then = fill-at position entries fill light found.0 in_grid found.1 in
        ap (entry (with_entries position.board entries)) (sym found.2) ∙ then ∙ sym now ∙ ap (entry (placed position light word).board) found.2 ∙ e
    | inr none ↦ fill.kept cell letter (sym (entries_with-other position.board.entries (light_at position.board light) word cell none) ∙ e)
  ];
  entered = fill.entered;
  words = λ other below not_entered. elim (cases_Bool (is_entered position other)) [
    | inl entered ↦ absurd (false≢true (sym not_entered ∙ placed-entered position light word laid (fill-agrees position entries fill light in_grid) other entered))
    | inr not_before ↦ fill.words other below not_before
  ];
  distinct = fill.distinct;
} where
  word : List ℕ
  word = spelled (with_entries position.board entries) (light_at position.board light)

none_open : (position : Position) (fuel : ℕ) → unentered_count position ≤ fuel → fuel ≡ 0 → is_none (chosen position) ≡ true
none_open position fuel enough none = split (chosen position) refl where
  split : (o : Option ℕ) → chosen position ≡ o → is_none o ≡ true
  split None e = refl
  split (Some light) e = let counted = chosen-counted position light e in absurd (omega arith)

pub fill_is_found : (fuel : ℕ) (position : Position) (entries : List (Option ℕ)) → IsShaped position.board → unentered_count position ≤ fuel → IsFill position entries → found_in fuel position ≡ true
unfolding found_in
fill_is_found zero position entries laid enough fill = and_from _ _ (ap not (fill-alive position entries laid fill)) (none_open position 0 enough refl)
fill_is_found (suc fuel) position entries laid enough fill = and_from _ _ (ap not (fill-alive position entries laid fill)) (split (λ light word. fill_is_found fuel (placed position light word) entries) (chosen position) refl) where
  split : ((light : ℕ) (word : List ℕ) → IsShaped (placed position light word).board → unentered_count (placed position light word) ≤ fuel → IsFill (placed position light word) entries → found_in fuel (placed position light word) ≡ true) → (o : Option ℕ) → chosen position ≡ o → found_by (found_in fuel) position o ≡ true
  split further None e = refl
  split further (Some light) e =
      let is = chosen-Some position light e in
      let word = spelled (with_entries position.board entries) (light_at position.board light) in
      let fewer = placed-fewer position light word laid (fill-agrees position entries fill light is.0) is.0 is.1 in
      list_any-from (λ w. found_in fuel (placed position light w)) (feasible_words position light) word (fill_is_feasible position entries laid fill light is.0)
      (further light word (placed-laid position light word laid) (omega arith) (fill-placed position entries laid fill light is.0))

-- ---- What is found is a fill.

-- the entries after some placements
pub record IsReached (start : Position) (entries : List (Option ℕ)) : Type 0 where
  pub long : length entries ≡ length start.board.entries
  pub letters : HasLetterEntries (with_entries start.board entries)
  pub kept : (cell letter : ℕ) → entry start.board cell ≡ Some letter → entry (with_entries start.board entries) cell ≡ Some letter
  pub active : (light : ℕ) → light < light_count start → is_entered start light ≡ false → is_entered (holding start entries) light ≡ true → IsActive start.words (spelling (holding start entries) light)

pub reached-start : (start : Position) → HasLetterEntries start.board → IsReached start start.board.entries
reached-start start letters = record {
  long = refl;
  letters = letters;
  kept = λ cell letter e. e;
  active = λ light below not_entered entered. absurd (false≢true (sym not_entered ∙ entered));
}

pub reached-laid : (start : Position) (entries : List (Option ℕ)) → IsShaped start.board → IsReached start entries → IsShaped (holding start entries).board
reached-laid start entries laid reached = record {
  entries = reached.long ∙ laid.entries;
  cells_open = laid.cells_open;
  short = laid.short;
  distinct = laid.distinct;
  cross_once = laid.cross_once;
}

-- a light that is completed by a feasible crossing word spells an active word
crossing_spells : (position : Position) (light other : ℕ) (word : List ℕ) → IsShaped position.board → (family : Family) → IsSupported position.board position.words family → family.words light word ≡ true → length word ≡ length (light_at position.board light) → other < light_count position → (light ≡ other → ⊥) → is_entered position other ≡ false → is_entered (placed position light word) other ≡ true → IsActive position.words (spelling (placed position light word) other)
crossing_spells position light other word laid family supported has long in_grid apart not_entered entered =
    let cells = light_at position.board light in
    let across = light_at position.board other in
    let gap = empty-at position.board across not_entered in
    let filled = entered-at (placed position light word).board across entered gap.0 gap.1 in
    elim (cell_in cells (get_or across gap.0 0)) [
      | inr none ↦ absurd (let now = sym filled.1 ∙ entries_with-other position.board.entries cells word (get_or across gap.0 0) none ∙ gap.2 in cc)
      | inl meets ↦
          let letter = supported.words_have_letters light word has meets.0 meets.1 in
          let crossing = supported.letters_have_words (get_or cells meets.0 0) (get_or word meets.0 0) letter other gap.0 in_grid gap.1 (sym meets.2) in
          let base = open_base position.board position.words other crossing.0 in_grid not_entered (Among-contained crossing.0 (base_words_at position.board position.words other) (supported.words_are_base other crossing.0 crossing.1)) in
          let same : spelling (placed position light word) other ≡ crossing.0 = spelled-is (placed position light word).board across crossing.0 (agrees-length position.board across crossing.0 base.1) (λ k below.
          elim (cell_in cells (get_or across k 0)) [
            | inl here ↦
                let one : here.0 ≡ meets.0 = laid.cross_once light other here.0 k meets.0 gap.0 apart here.1 meets.1 below gap.1 here.2 meets.2 in
                let pos : k ≡ gap.0 = laid.distinct other k gap.0 below gap.1 (sym here.2 ∙ ap (λ j. get_or cells j 0) one ∙ meets.2) in
                ap (entry (placed position light word).board) (sym here.2) ∙ placed-at position light word laid long here.0 here.1 ∙ ap (λ j. Some (get_or word j 0)) one ∙ ap Some (sym crossing.2) ∙ ap (λ j. Some (get_or crossing.0 j 0)) (sym pos)
            | inr elsewhere ↦
                let now = entered-at (placed position light word).board across entered k below in
                let before = entries_with-other position.board.entries cells word (get_or across k 0) elsewhere in
                now.1 ∙ ap Some (allowed (entry position.board (get_or across k 0)) now.0 (get_or crossing.0 k 0) (sym before ∙ now.1) (agrees-at position.board across crossing.0 base.1 k below))
          ]) in
          subst (IsActive position.words) (sym same) base.0
    ]

pub reached-placed : (start : Position) (entries : List (Option ℕ)) → IsShaped start.board → IsReached start entries → (light : ℕ) (word : List ℕ) → light < light_count start → is_entered (holding start entries) light ≡ false → Among word (feasible_words (holding start entries) light) → IsReached start (entries_with entries (light_at start.board light) word)
reached-placed start entries laid reached light word in_grid not_entered among =
    let position = holding start entries in
    let laid_now = reached-laid start entries laid reached in
    let base = open_feasible position light word in_grid not_entered among in
    let long = agrees-length position.board (light_at start.board light) word base.1 in
    let feasible = is_feasible_word-gives position light word (feasible-gives position light word among).1 in
    record {
      long = length-entries_with entries (light_at start.board light) word ∙ reached.long;
      letters = λ cell letter e. elim (cell_in (light_at start.board light) cell) [
        | inl found ↦
            let now = placed-at position light word laid_now long found.0 found.1 in
            let stands = feasible.1.letters_agree (get_or (light_at start.board light) found.0 0) (get_or word found.0 0) (feasible.1.words_have_letters light word feasible.2 found.0 found.1) in
            let small : IsLetter (get_or word found.0 0) = capital_is_letter (get_or word found.0 0) (and_parts (is_open start.board (get_or (light_at start.board light) found.0 0)) (is_capital (get_or word found.0 0)) (and_parts _ (allows (entry position.board (get_or (light_at start.board light) found.0 0)) (get_or word found.0 0)) stands).0).1 in
            let both : Some (get_or word found.0 0) ≡ Some letter = sym now ∙ ap (entry (placed position light word).board) found.2 ∙ e in
            let same : get_or word found.0 0 ≡ letter = cc in
            subst IsLetter same small
        | inr none ↦ reached.letters cell letter (sym (entries_with-other entries (light_at start.board light) word cell none) ∙ e)
      ];
      kept = λ cell letter e. placed-kept position light word laid_now base.1 cell letter (reached.kept cell letter e);
      active = λ other below not_before entered_now. elim (cases_Bool (is_entered position other)) [
        | inl entered ↦
            let same : spelling (placed position light word) other ≡ spelling position other = spelled-same (placed position light word).board position.board (light_at start.board other) (λ k under.
            let found = entered-at position.board (light_at start.board other) entered k under in
            placed-kept position light word laid_now base.1 (get_or (light_at start.board other) k 0) found.0 found.1 ∙ sym found.1) in
            subst (IsActive start.words) (sym same) (reached.active other below not_before entered)
        | inr not_yet ↦ elim (cases_eq light other) [
          | inl here ↦
              let same : spelling (placed position light word) light ≡ word = spelled-is (placed position light word).board (light_at start.board light) word long (λ k under. placed-at position light word laid_now long k under) in
              subst (λ l. IsActive start.words (spelling (placed position light word) l)) here (subst (IsActive start.words) (sym same) base.0)
          | inr apart ↦ crossing_spells position light other word laid_now feasible.0 feasible.1 feasible.2 long below apart not_yet entered_now
        ]
      ];
    }

-- a position that is not dead and has every light wholly entered is a fill
pub reached-fill : (start : Position) (entries : List (Option ℕ)) → IsReached start entries → is_dead (holding start entries) ≡ false → chosen (holding start entries) ≡ None → IsFill start entries
reached-fill start entries reached alive none = record {
  letters = reached.letters;
  kept = reached.kept;
  entered = chosen-None (holding start entries) none;
  words = λ light below not_entered. reached.active light below not_entered (chosen-None (holding start entries) none light below);
  distinct = λ light other below in_grid same.
      let in_grid_too : light < light_count start = omega arith in
      alive-distinct (holding start entries) alive light other below in_grid (chosen-None (holding start entries) none other in_grid) (chosen-None (holding start entries) none light in_grid_too) (sym same);
}

end_of-first : (found : List ℕ → Bool) (end : List ℕ → Position) (position : Position) (words : List (List ℕ)) → list_any found words ≡ true → (word : List ℕ) × Among word words × (found word ≡ true) × (end_of found end position words ≡ end word)
end_of-first found end position [] h = absurd (false≢true h)
end_of-first found end position (word ∷ words) h = split (λ g. end_of-first found end position words g) (found word) refl h where
  split : (list_any found words ≡ true → (w : List ℕ) × Among w words × (found w ≡ true) × (end_of found end position words ≡ end w)) → (b : Bool) → found word ≡ b → (b || list_any found words) ≡ true → (w : List ℕ) × Among w (word ∷ words) × (found w ≡ true) × (cond b (end word) (end_of found end position words) ≡ end w)
  split later true e g = (word, inl refl, e, refl)
  split later false e g = let further = later g in (further.0, inr further.1, further.2, further.3)

-- the end is the start with the entries of a fill
abbrev pub EndsIn : Position → Position → Type 0
EndsIn start position = (entries : List (Option ℕ)) × (position ≡ holding start entries) × IsFill start entries

pub found_is_fill : (fuel : ℕ) (start : Position) (entries : List (Option ℕ)) → IsShaped start.board → IsReached start entries → found_in fuel (holding start entries) ≡ true → EndsIn start (end_in fuel (holding start entries))
unfolding found_in end_in
found_is_fill zero start entries laid reached h =
    let parts = and_parts (not (is_dead (holding start entries))) (is_none (chosen (holding start entries))) h in
    (entries, refl, reached-fill start entries reached (not-true (is_dead (holding start entries)) parts.0) (no_choice (chosen (holding start entries)) parts.1)) where
      no_choice : (o : Option ℕ) → is_none o ≡ true → o ≡ None
      no_choice None e = refl
      no_choice (Some light) e = absurd (false≢true e)
found_is_fill (suc fuel) start entries laid reached h =
    let parts = and_parts (not (is_dead (holding start entries))) (found_by (found_in fuel) (holding start entries) (chosen (holding start entries))) h in
    split (λ more. found_is_fill fuel start more laid) (not-true (is_dead (holding start entries)) parts.0) (chosen (holding start entries)) refl parts.1 where
      split : ((more : List (Option ℕ)) → IsReached start more → found_in fuel (holding start more) ≡ true → EndsIn start (end_in fuel (holding start more))) → is_dead (holding start entries) ≡ false → (o : Option ℕ) → chosen (holding start entries) ≡ o → found_by (found_in fuel) (holding start entries) o ≡ true → EndsIn start (end_by (found_in fuel) (end_in fuel) (holding start entries) o)
      split further alive None e g = (entries, refl, reached-fill start entries reached alive e)
      split further alive (Some light) e g =
          let is = chosen-Some (holding start entries) light e in
          let first = end_of-first (λ word. found_in fuel (placed (holding start entries) light word)) (λ word. end_in fuel (placed (holding start entries) light word)) (holding start entries) (feasible_words (holding start entries) light) g in
          subst (EndsIn start) (sym first.3) (further (entries_with entries (light_at start.board light) first.0) (reached-placed start entries laid reached light first.0 is.0 is.1 first.1) first.2)
