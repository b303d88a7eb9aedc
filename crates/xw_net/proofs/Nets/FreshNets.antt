-- A net from which stripping can start: it has all base words and all allowed letters, no supports,
-- and each light is queued.
use Rattle.std.proofs.Common.{◌≡◌, ℕ, ◌+◌, ◌<◌, ◌≤◌, Bool, true, false, not, ◌&&◌, List, length, get_or, refl, sym, ap, ◌∙◌, subst, inl, inr, arith}
use Rattle.std.specs.Prelude.{is_some, unwrap_or}
use Rattle.std.proofs.lemmas.Bool.{false_from_ne_true, cases_Bool, cases_lt, both_ways, and_parts, and_from, or_left, eq-eqb}
use Rattle.std.proofs.lemmas.List.Folds.{list_all_at}
use Rattle.xw_letters.specs.Letter.{IsLetter, is_capital}
use Rattle.xw_words.specs.Dictionary.{Dictionary, Entry, known_words, no_entry}
use Rattle.xw_letters.proofs.LetterSetLemmas.{letter_is_capital}
use Rattle.xw_feas.specs.Board.{Board, light_at, entry, is_open, allows, agrees, is_wholly_entered}
use Rattle.xw_feas.specs.Feasible.{may_stand}
use Rattle.xw_feas.specs.Choices.{is_base_at, base_flags}
use Rattle.xw_feas.proofs.BoardLemmas.{agrees_at}
use Rattle.xw_feas.proofs.ChoicesLemmas.{base_flag_at, base_flag_entered, length-base_flags}
use Rattle.xw_feas.proofs.Support.{set_flag_within}
use Rattle.std.proofs.lemmas.List.{length-map}
use Rattle.xw_net.specs.Marks.{Marks, IsPositionIn, cell_at, slot_at, IsSetting, known, letter_of, IsReady}
use Rattle.xw_net.specs.Brought.{IsBrought}
use Rattle.xw_net.proofs.Stripping.WordsByNumber.{choice_listed, letter_entered}
use Rattle.xw_net.proofs.Stripping.EndOfStripping.{some_is}

pub may_capital : (board : Board) (cell letter : ℕ) → may_stand board cell letter ≡ true → is_capital letter ≡ true
may_capital board cell letter may = (and_parts (is_open board cell) (is_capital letter) (and_parts (is_open board cell && is_capital letter) (allows (entry board cell) letter) may).0).1

module _ (board : Board) (entries : ℕ → List Entry) (dictionary : Dictionary) (setting : IsSetting board entries dictionary) where
  may_from : (light position letter : ℕ) → IsPositionIn board light position → is_capital letter ≡ true → allows (entry board (cell_at board light position)) letter ≡ true → may_stand board (cell_at board light position) letter ≡ true
  may_from light position letter here capital allowed =
      let cell = cell_at board light position in
      and_from (is_open board cell && is_capital letter) (allows (entry board cell) letter) (and_from (is_open board cell) (is_capital letter) (setting.laid_out.cells_open light position here.1) capital) allowed

  -- each letter of a base word is allowed at its cell
  pub base_letter_may : (light position choice : ℕ) → IsPositionIn board light position → is_base_at board dictionary light choice ≡ true → may_stand board (cell_at board light position) (letter_of board dictionary light choice position) ≡ true
  base_letter_may light position choice here base =
      let cells = light_at board light in
      let words = known_words dictionary (length cells) in
      let below : choice < known board dictionary light + 1 = omega (arith, set_flag_within (base_flags board dictionary cells) choice base, length-base_flags board dictionary cells, length-map words (λ (word : Entry). word.word)) in
      elim (cases_lt choice (known board dictionary light)) [
        | inl lt ↦
            let word = get_or words choice no_entry in
            let parts = and_parts (not (is_wholly_entered board cells)) (word.active && agrees board cells word.word) (sym (base_flag_at board dictionary cells choice lt) ∙ base) in
            let agree = (and_parts word.active (agrees board cells word.word) parts.1).1 in
            let spelled_is = choice_listed board entries dictionary setting light choice lt in
            let long : length word.word ≡ length cells = (setting.words.words (length cells)).long choice no_entry lt in
            let letter : IsLetter (get_or (get_or (known_words dictionary (length (light_at board light))) choice no_entry).word position 0) = (setting.words.words (length cells)).letters choice no_entry lt position 0 (omega (arith, long, here.1)) in
            let same : get_or word.word position 0 ≡ letter_of board dictionary light choice position = ap (λ w. get_or w position 0) (sym spelled_is) in
            subst (λ b. may_stand board (cell_at board light position) b ≡ true) same
            (may_from light position (get_or word.word position 0) here (letter_is_capital (get_or word.word position 0) letter) (agrees_at board cells word.word agree position here.1))
        | inr le ↦
            let last : choice ≡ known board dictionary light = omega (arith, below, le) in
            let whole : is_wholly_entered board (light_at board light) ≡ true = sym (base_flag_entered board dictionary cells choice (last ∙ sym (length-map words (λ (word : Entry). word.word)))) ∙ base in
            let filled : is_some (entry board (cell_at board light position)) ≡ true =
            elim (cases_Bool (is_some (entry board (cell_at board light position)))) [
              | inl there ↦ there
              | inr empty ↦ absurd (both_ways (is_wholly_entered board (light_at board light)) (list_all_at (λ cell. is_some (entry board cell)) (light_at board light) position 0 here.1 empty) whole)
            ] in
            let own = unwrap_or (entry board (cell_at board light position)) 65 in
            let holds = some_is (entry board (cell_at board light position)) filled in
            let same : own ≡ letter_of board dictionary light choice position = sym (ap (λ k. letter_of board dictionary light k position) last ∙ letter_entered board entries dictionary setting light position here) in
            subst (λ b. may_stand board (cell_at board light position) b ≡ true) same
            (may_from light position own here (letter_is_capital own (setting.laid_out.letters (cell_at board light position) own holds)) (ap (λ o. allows o own) holds ∙ eq-eqb own own refl))
      ]

  -- if all words are base words, their letters are allowed
  pub fresh_ready : (marks : Marks)
      → ((light choice : ℕ) → marks.words light choice ≡ true → light < length board.lights)
      → ((light choice : ℕ) → light < length board.lights → marks.words light choice ≡ is_base_at board dictionary light choice)
      → ((cell letter : ℕ) → marks.letters cell letter ≡ may_stand board cell letter)
      → ((light position letter : ℕ) → IsPositionIn board light position → is_capital letter ≡ true → known board dictionary light ≤ marks.held (slot_at board light position) letter)
      → ((light position letter : ℕ) → IsPositionIn board light position → marks.pending (slot_at board light position) letter ≡ false)
      → ((light : ℕ) → light < length board.lights → marks.queued light ≡ true)
      → IsReady board dictionary marks
  fresh_ready marks lights words letters held pending queued = record {
    sound = record {
      within = record {
        lights = lights;
        words = λ light choice h. sym (words light choice (lights light choice h)) ∙ h;
        letters = λ cell letter h. sym (letters cell letter) ∙ h;
      };
      covers = λ family supported. record {
        words = λ light choice in_board base member. words light choice in_board ∙ base;
        letters = λ cell letter h. letters cell letter ∙ supported.letters_agree cell letter h;
      };
      spelled = λ light position choice here h.
          let b = letter_of board dictionary light choice position in
          or_left (marks.letters (cell_at board light position) b) (marks.pending (slot_at board light position) b)
          (letters (cell_at board light position) b ∙ base_letter_may light position choice here (sym (words light choice here.0) ∙ h));
      pending_gone = λ light position letter here h. absurd (both_ways (marks.pending (slot_at board light position) letter) (pending light position letter here) h);
      pending_queued = λ light position letter here h. queued light here.0;
      hits = λ light position letter here alive lt. absurd (omega (arith, lt, held light position letter here (may_capital board (cell_at board light position) letter (sym (letters (cell_at board light position) letter) ∙ alive))));
      first = λ light position letter choice here alive lt never below stands has. absurd (omega (arith, lt, held light position letter here (may_capital board (cell_at board light position) letter (sym (letters (cell_at board light position) letter) ∙ alive))));
    };
    held = λ light position letter here off alive. absurd (both_ways (marks.queued light) off (queued light here.0));
  }

-- the marks after words came back at all lights, to a net without words past them and with all
-- allowed letters
pub brought_ready_all : (board : Board) (entries : ℕ → List Entry) (dictionary : Dictionary) → IsSetting board entries dictionary → (old new : Marks) (chain : ℕ → Bool) → IsBrought board dictionary old new chain
    → ((light : ℕ) → light < length board.lights → chain light ≡ true)
    → ((light choice : ℕ) → length board.lights ≤ light → old.words light choice ≡ false)
    → ((cell letter : ℕ) → old.letters cell letter ≡ may_stand board cell letter)
    → ((light position letter : ℕ) → IsPositionIn board light position → is_capital letter ≡ true → known board dictionary light ≤ old.held (slot_at board light position) letter)
    → ((slot letter : ℕ) → old.pending slot letter ≡ false)
    → IsReady board dictionary new
brought_ready_all board entries dictionary setting old new chain brought all none letters held pending =
    fresh_ready board entries dictionary setting new
    (λ light choice h. elim (cases_lt light (length board.lights)) [
      | inl lt ↦ lt
      | inr le ↦ elim (cases_Bool (chain light)) [
        | inl on ↦ brought.lights light on
        | inr off ↦ absurd (both_ways (new.words light choice) (brought.words_off light choice off ∙ none light choice le) h)
      ]
    ])
    (λ light choice lt. brought.words_on light choice (all light lt))
    (λ cell letter. elim (cases_Bool (may_stand board cell letter)) [
      | inl may ↦ brought.letters_stay cell letter may (letters cell letter ∙ may) ∙ sym may
      | inr never ↦ false_from_ne_true (new.letters cell letter) (λ stands. both_ways (may_stand board cell letter) never (elim (brought.letters_from cell letter stands) [
        | inl stood ↦ sym (letters cell letter) ∙ stood
        | inr may ↦ may
      ])) ∙ sym never
    ])
    (λ light position letter here capital. omega (arith, held light position letter here capital, brought.held (slot_at board light position) letter))
    (λ light position letter here. brought.pending (slot_at board light position) letter ∙ pending (slot_at board light position) letter)
    (λ light lt. brought.queued_on light (all light lt))
