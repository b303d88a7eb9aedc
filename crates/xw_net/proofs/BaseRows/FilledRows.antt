-- The base rows of the lights through an empty cell that got a letter.
use Rattle.std.proofs.Common.{◌≡◌, ℕ, zero, suc, ◌+◌, ◌<◌, Bool, true, false, not, ◌&&◌, List, [], ◌∷◌, length, get_or, refl, sym, ◌∙◌, ap, inl, inr, arith}
use Rattle.std.specs.Prelude.{All}
use Rattle.std.proofs.lemmas.Bool.{cases_Bool, cases_eq, cases_lt, both_ways, and_parts, and_from, false_from_ne_true, not_from_false}
use Rattle.std.proofs.lemmas.List.{get_or_default, get_or_past}
use Rattle.xw_words.specs.Dictionary.{Entry, entry_at, no_entry}
use Rattle.xw_feas.specs.Board.{Board, entry, allows, agrees, is_wholly_entered}
use Rattle.xw_feas.proofs.BoardLemmas.{agrees_at}
use Rattle.xw_net.specs.Base.{KeepsAgreeing, KeepsEntry, HasOneMore, base_bits, is_base_word, has_entry}
use Rattle.xw_net.proofs.Edits.KeptBaseWords.{HaveSameEntries, entered_same}
use Rattle.xw_net.proofs.Revivals.StartIsRevival.{empty_not_whole}
use Rattle.xw_net.proofs.BaseRows.BaseBits.{has_entry_is, base_bit}

-- ---- one position after another

module _ (board : Board) (cells : List ℕ) (entries : ℕ → List Entry) (cell : ℕ) (bits : List Bool) where
  pub keeps_none : KeepsEntry board cells entries cell 0 bits bits
  keeps_none = record {
    from = λ index on. on;
    allowed = λ index position on below at. absurd (omega (arith, below));
    stay = λ index on each. on;
  }

  -- a position with another cell
  pub keeps_past : (count : ℕ) (mid : List Bool) → (get_or cells count 0 ≡ cell → ⊥) → KeepsEntry board cells entries cell count bits mid → KeepsEntry board cells entries cell (count + 1) bits mid
  keeps_past count mid other keeps = record {
    from = keeps.from;
    allowed = λ index position on below at. elim (cases_eq position count) [
      | inl here ↦ absurd (other (ap (λ k. get_or cells k 0) (sym here) ∙ at))
      | inr apart ↦ keeps.allowed index position on (omega (arith, below, apart)) at
    ];
    stay = λ index on each. keeps.stay index on (λ position below at. each position (omega (arith, below)) at);
  }

  -- a position with the cell, whose words are kept by its entry
  pub keeps_here : (count : ℕ) (mid bits' : List Bool) → get_or cells count 0 ≡ cell → KeepsEntry board cells entries cell count bits mid → KeepsAgreeing board cells entries count mid bits' → KeepsEntry board cells entries cell (count + 1) bits bits'
  keeps_here count mid bits' here keeps agreeing = record {
    from = λ index on. keeps.from index (parts index on).0;
    allowed = λ index position on below at. elim (cases_eq position count) [
      | inl last ↦ ap (λ k. has_entry (entry board cell) (entries (length cells)) k index) last ∙ there index ∙ (parts index on).1
      | inr apart ↦ keeps.allowed index position (parts index on).0 (omega (arith, below, apart)) at
    ];
    stay = λ index on each. agreeing index
        ∙ and_from _ _ (keeps.stay index on (λ position below at. each position (omega (arith, below)) at)) (sym (there index) ∙ each count (omega arith) here);
  } where
    there : (index : ℕ) → has_entry (entry board cell) (entries (length cells)) count index ≡ has_entry (entry board (get_or cells count 0)) (entries (length cells)) count index
    there index = ap (λ p. has_entry (entry board p) (entries (length cells)) count index) (sym here)

    parts : (index : ℕ) → get_or bits' index false ≡ true → (get_or mid index false ≡ true) × (has_entry (entry board (get_or cells count 0)) (entries (length cells)) count index ≡ true)
    parts index on = and_parts _ _ (sym (agreeing index) ∙ on)

-- ---- all positions

agrees_all : (board : Board) (cells word : List ℕ) → length word ≡ length cells → ((k : ℕ) → k < length cells → allows (entry board (get_or cells k 0)) (get_or word k 0) ≡ true) → agrees board cells word ≡ true
agrees_all board [] [] long each = refl
agrees_all board [] (letter ∷ letters) long each = absurd (omega (arith, long))
agrees_all board (cell ∷ cells) [] long each = absurd (omega (arith, long))
agrees_all board (cell ∷ cells) (letter ∷ letters) long each = and_from _ _ (each zero (omega arith)) (agrees_all board cells letters (omega (arith, long)) (λ k below. each (suc k) (omega (arith, below))))

same_truth : (a b : Bool) → (a ≡ true → b ≡ true) → (b ≡ true → a ≡ true) → a ≡ b
same_truth a b to back = elim (cases_Bool b) [
  | inl on ↦ back on ∙ sym on
  | inr off ↦ false_from_ne_true a (λ on. both_ways b off (to on)) ∙ sym off
]

module _ (before board : Board) (cells : List ℕ) (entries : ℕ → List Entry) (long : All (λ (word : Entry). length word.word ≡ length cells) (entries (length cells))) (cell : ℕ) (more : HasOneMore before board cell)
    (bits bits' : List Bool) (row : bits ≡ base_bits before cells (entries (length cells))) (keeps : KeepsEntry board cells entries cell (length cells) bits bits') (open_ : is_wholly_entered board cells ≡ false) where
  was_open : is_wholly_entered before cells ≡ false
  was_open = false_from_ne_true _ (λ whole. both_ways _ open_ (entered_same before board cells (same whole) ∙ whole)) where
    same : is_wholly_entered before cells ≡ true → HaveSameEntries before board cells
    same whole other in_cells = elim (cases_eq other cell) [
      | inl here ↦ absurd (both_ways _ (empty_not_whole before cells in_cells.0 in_cells.1 (ap (entry before) (get_or_default cells in_cells.0 0 other in_cells.1 ∙ in_cells.2 ∙ here) ∙ more.empty)) whole)
      | inr apart ↦ more.others other apart
    ]

  had_bit : (index : ℕ) → get_or bits index false ≡ is_base_word before cells (entry_at (entries (length cells)) index)
  had_bit index = ap (λ b. get_or b index false) row ∙ sym (base_bit before cells (entries (length cells)) index)

  -- an active word has as many letters as the light has cells
  active_long : (index : ℕ) → (entry_at (entries (length cells)) index).active ≡ true → length (entry_at (entries (length cells)) index).word ≡ length cells
  active_long index on = elim (cases_lt index (length (entries (length cells)))) [
    | inl within ↦ long index no_entry within
    | inr past ↦ absurd (both_ways _ (ap (λ (e : Entry). e.active) (get_or_past (entries (length cells)) index no_entry past)) on)
  ]

  to_base : (index : ℕ) → get_or bits' index false ≡ true → is_base_word board cells (entry_at (entries (length cells)) index) ≡ true
  to_base index on = and_from _ _ (not_from_false _ open_) (and_from _ _ had.0 (agrees_all board cells (entry_at (entries (length cells)) index).word (active_long index had.0) each)) where
    had : ((entry_at (entries (length cells)) index).active ≡ true) × (agrees before cells (entry_at (entries (length cells)) index).word ≡ true)
    had =
        and_parts (entry_at (entries (length cells)) index).active (agrees before cells (entry_at (entries (length cells)) index).word)
        (and_parts (not (is_wholly_entered before cells)) ((entry_at (entries (length cells)) index).active && agrees before cells (entry_at (entries (length cells)) index).word) (sym (had_bit index) ∙ keeps.from index on)).1

    each : (k : ℕ) → k < length cells → allows (entry board (get_or cells k 0)) (get_or (entry_at (entries (length cells)) index).word k 0) ≡ true
    each k below = elim (cases_eq (get_or cells k 0) cell) [
      | inl here ↦
          ap (λ p. allows (entry board p) (get_or (entry_at (entries (length cells)) index).word k 0)) here
          ∙ sym (has_entry_is (entry board cell) (entries (length cells)) k index (omega (arith, below, active_long index had.0)))
          ∙ keeps.allowed index k on below here
      | inr apart ↦ ap (λ e. allows e (get_or (entry_at (entries (length cells)) index).word k 0)) (more.others (get_or cells k 0) apart) ∙ agrees_at before cells (entry_at (entries (length cells)) index).word had.1 k below
    ]

  from_base : (index : ℕ) → is_base_word board cells (entry_at (entries (length cells)) index) ≡ true → get_or bits' index false ≡ true
  from_base index is = keeps.stay index (had_bit index ∙ and_from _ _ (not_from_false _ was_open) (and_from _ _ now.0 (agrees_all before cells (entry_at (entries (length cells)) index).word (active_long index now.0) each))) allowed where
    now : ((entry_at (entries (length cells)) index).active ≡ true) × (agrees board cells (entry_at (entries (length cells)) index).word ≡ true)
    now =
        and_parts (entry_at (entries (length cells)) index).active (agrees board cells (entry_at (entries (length cells)) index).word)
        (and_parts (not (is_wholly_entered board cells)) ((entry_at (entries (length cells)) index).active && agrees board cells (entry_at (entries (length cells)) index).word) is).1

    each : (k : ℕ) → k < length cells → allows (entry before (get_or cells k 0)) (get_or (entry_at (entries (length cells)) index).word k 0) ≡ true
    each k below = elim (cases_eq (get_or cells k 0) cell) [
      | inl here ↦ ap (λ e. allows e (get_or (entry_at (entries (length cells)) index).word k 0)) (ap (entry before) here ∙ more.empty)
      | inr apart ↦ ap (λ e. allows e (get_or (entry_at (entries (length cells)) index).word k 0)) (sym (more.others (get_or cells k 0) apart)) ∙ agrees_at board cells (entry_at (entries (length cells)) index).word now.1 k below
    ]

    allowed : (position : ℕ) → position < length cells → get_or cells position 0 ≡ cell → has_entry (entry board cell) (entries (length cells)) position index ≡ true
    allowed position below at =
        has_entry_is (entry board cell) (entries (length cells)) position index (omega (arith, below, active_long index now.0))
        ∙ ap (λ p. allows (entry board p) (get_or (entry_at (entries (length cells)) index).word position 0)) (sym at)
        ∙ agrees_at board cells (entry_at (entries (length cells)) index).word now.1 position below

  -- the base row after the cell got its letter has the words of the row before that have this letter
  pub filled_bit : (index : ℕ) → get_or bits' index false ≡ is_base_word board cells (entry_at (entries (length cells)) index)
  filled_bit index = same_truth _ _ (to_base index) (from_base index)
