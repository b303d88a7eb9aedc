-- The marks of a settled net after letters were entered and the lights through them narrowed: they are ready for stripping.
use Rattle.std.proofs.Common.{◌≡◌, ◌⊎◌, ℕ, zero, suc, ◌<◌, ◌≤◌, true, false, not, ◌&&◌, eqb, List, [], ◌∷◌, map, Some, None, length, get_or, refl, sym, ap, ◌∙◌, subst, inl, inr, arith}
use Rattle.std.specs.Prelude.{Option, IsTrue, is_some, unwrap_or}
use Rattle.std.proofs.lemmas.Bool.{cases_Bool, cases_lt, and_parts, and_from, or_left, both_ways, eq-eqb, false≢true}
use Rattle.std.proofs.lemmas.List.{length-map, get_or_push, get_or-map, get_or_append_left}
use Rattle.std.proofs.lemmas.List.Elements.{Contains-get_or}
use Rattle.std.proofs.lemmas.List.Folds.{list_all_at}
use Rattle.xw_letters.specs.Letter.{is_capital}
use Rattle.xw_words.specs.Dictionary.{Dictionary, Entry, known_words, entry_at, no_entry}
use Rattle.xw_feas.specs.Board.{Board, entry, is_open, light_at, allows, agrees, is_wholly_entered, spelled}
use Rattle.xw_feas.specs.Feasible.{may_stand}
use Rattle.xw_feas.specs.Choices.{base_flags, choice_at, is_base_at, IsExact, CoversSupported}
use Rattle.xw_feas.proofs.BoardLemmas.{agrees_at}
use Rattle.xw_feas.proofs.ChoicesLemmas.{base_flag_at, base_flag_entered, length-base_flags}
use Rattle.xw_feas.proofs.Support.{set_flag_within}
use Rattle.xw_net.specs.Marks.{Marks, IsPositionIn, cell_at, slot_at, known, letter_of, puts, IsHolding, IsSound, IsReady}
use Rattle.xw_net.specs.Marks.IsHeld.{by_word}
use Rattle.xw_net.proofs.Edits.ExactFamilies.{exact_covers, exact_base, exact_may, exact_letters, exact_words}
use Rattle.xw_net.proofs.Edits.KeptBaseWords.{HaveSameEntries, agrees_same, entered_same, spelled_same}
use Rattle.xw_net.proofs.Levels.EnteredBoards.{with_entries, KeepsEntries, known_base}
use Rattle.xw_net.proofs.Levels.EnteredFamilies.{AreSpelled, known_choice, supported_before}

-- letters were entered in empty cells: the queued lights pass through these cells, and keep the words that are still base words; the
-- other lights stay
pub record AreEntered (before : Board) (entries : List (Option ℕ)) (dictionary : Dictionary) (old new : Marks) : Type 0 where
  pub words_on : (light choice : ℕ) → new.queued light ≡ true → choice < known before dictionary light
      → new.words light choice ≡ (old.words light choice && is_base_at (with_entries before entries) dictionary light choice)
  pub entered_on : (light : ℕ) → new.queued light ≡ true → new.words light (known before dictionary light) ≡ is_wholly_entered (with_entries before entries) (light_at before light)
  pub words_off : (light choice : ℕ) → new.queued light ≡ false → new.words light choice ≡ old.words light choice
  pub lights : (light choice : ℕ) → new.words light choice ≡ true → light < length before.lights
  pub numbers : (light choice : ℕ) → new.words light choice ≡ true → choice ≤ known before dictionary light
  pub entries_off : (light : ℕ) → light < length before.lights → new.queued light ≡ false → HaveSameEntries before (with_entries before entries) (light_at before light)
  pub open_on : (light : ℕ) → new.queued light ≡ true → is_wholly_entered before (light_at before light) ≡ false
  pub letters : (cell letter : ℕ) → new.letters cell letter ≡ (old.letters cell letter && may_stand (with_entries before entries) cell letter)
  pub held : (slot letter : ℕ) → new.held slot letter ≡ old.held slot letter
  pub restart : (slot letter : ℕ) → new.restart slot letter ≡ old.restart slot letter
  pub pending : (slot letter : ℕ) → new.pending slot letter ≡ false

module _ (before : Board) (entries : List (Option ℕ)) (kept : KeepsEntries before entries) (dictionary : Dictionary) (old new : Marks) (exact : IsExact before dictionary old.words old.letters)
    (full : AreSpelled before entries dictionary old.words) (is : AreEntered before entries dictionary old new) where
  abbrev after : Board
  after = with_entries before entries

  -- a light that is not queued and wholly entered was so before
  abbrev Numbered : ℕ → ℕ → Type 0
  Numbered light choice = (choice < known before dictionary light) ⊎ (choice ≡ known before dictionary light)

  numbered : (light choice : ℕ) → new.words light choice ≡ true → Numbered light choice
  numbered light choice stands =
      let most = is.numbers light choice stands in
      elim (cases_lt choice (known before dictionary light)) [
        | inl below ↦ inl below
        | inr past ↦ inr (omega (arith, most, past))
      ]

  entered_flag : (board : Board) (light : ℕ) → is_base_at board dictionary light (known board dictionary light) ≡ is_wholly_entered board (light_at board light)
  entered_flag board light = base_flag_entered board dictionary (light_at board light) (known board dictionary light) (sym (length-map (known_words dictionary (length (light_at board light))) (λ (word : Entry). word.word)))

  -- a known word of a light that is not queued is a base word if it was one
  base_off : (light choice : ℕ) → light < length before.lights → new.queued light ≡ false → choice < known before dictionary light → is_base_at before dictionary light choice ≡ true → is_base_at after dictionary light choice ≡ true
  base_off light choice inside off below base =
      let cells = light_at before light in
      let same = is.entries_off light inside off in
      base_flag_at after dictionary cells choice below
      ∙ ap (λ b. not b && ((entry_at (known_words dictionary (length cells)) choice).active && agrees after cells (entry_at (known_words dictionary (length cells)) choice).word)) (entered_same before after cells same)
      ∙ ap (λ b. not (is_wholly_entered before cells) && ((entry_at (known_words dictionary (length cells)) choice).active && b)) (agrees_same before after cells (entry_at (known_words dictionary (length cells)) choice).word same)
      ∙ sym (base_flag_at before dictionary cells choice below) ∙ base

  within_words : (light choice : ℕ) → new.words light choice ≡ true → is_base_at after dictionary light choice ≡ true
  within_words light choice stands =
      let inside = is.lights light choice stands in
      elim (cases_Bool (new.queued light)) [
        | inl on ↦ elim (numbered light choice stands) [
          | inl below ↦ (and_parts (old.words light choice) (is_base_at after dictionary light choice) (sym (is.words_on light choice on below) ∙ stands)).1
          | inr last ↦ ap (is_base_at after dictionary light) last ∙ entered_flag after light ∙ sym (is.entered_on light on) ∙ ap (new.words light) (sym last) ∙ stands
        ]
        | inr off ↦
            let base = exact_base before dictionary old.words old.letters exact light choice inside (sym (is.words_off light choice off) ∙ stands) in
            elim (numbered light choice stands) [
              | inl below ↦ base_off light choice inside off below base
              | inr last ↦ ap (is_base_at after dictionary light) last ∙ entered_flag after light ∙ entered_same before after (light_at before light) (is.entries_off light inside off) ∙ sym (entered_flag before light) ∙ ap (is_base_at before dictionary light) (sym last) ∙ base
            ]
      ]

  -- ---- the words at their numbers

  last_choice : (board : Board) (light : ℕ) → choice_at board dictionary light (known board dictionary light) ≡ spelled board (light_at board light)
  last_choice board light =
      get_or_push (map (λ (word : Entry). word.word) (known_words dictionary (length (light_at board light)))) (spelled board (light_at board light)) [] (known board dictionary light) (length-map (known_words dictionary (length (light_at board light))) (λ (word : Entry). word.word))

  -- a word of a light that is not queued is the same
  same_choice : (light choice : ℕ) → light < length before.lights → new.queued light ≡ false → Numbered light choice → choice_at after dictionary light choice ≡ choice_at before dictionary light choice
  same_choice light choice inside off number = elim number [
    | inl below ↦ known_choice before entries dictionary light choice below
    | inr last ↦ ap (choice_at after dictionary light) last ∙ last_choice after light ∙ spelled_same before after (light_at before light) (is.entries_off light inside off) ∙ sym (last_choice before light) ∙ ap (choice_at before dictionary light) (sym last)
  ]

  base_numbered : (light choice : ℕ) → is_base_at after dictionary light choice ≡ true → Numbered light choice
  base_numbered light choice base =
      let most = set_flag_within (base_flags after dictionary (light_at before light)) choice base in
      elim (cases_lt choice (known before dictionary light)) [
        | inl below ↦ inl below
        | inr past ↦ inr (omega (arith, most, past, length-base_flags after dictionary (light_at before light), length-map (known_words dictionary (length (light_at before light))) (λ (word : Entry). word.word)))
      ]

  covers : CoversSupported after dictionary new.words new.letters
  covers family supported =
      let was = exact_covers before dictionary old.words old.letters exact family (supported_before before entries kept dictionary old.words old.letters exact full family supported) in
      record {
        words = λ light choice inside base member.
            elim (cases_Bool (new.queued light)) [
              | inl on ↦ elim (base_numbered light choice base) [
                | inl below ↦
                    let stood = was.words light choice inside (known_base before entries kept dictionary light choice below base) (subst (λ w. IsTrue (family.words light w)) (known_choice before entries dictionary light choice below) member) in
                    is.words_on light choice on below ∙ and_from (old.words light choice) (is_base_at after dictionary light choice) stood base
                | inr last ↦ ap (new.words light) last ∙ is.entered_on light on ∙ sym (entered_flag after light) ∙ ap (is_base_at after dictionary light) (sym last) ∙ base
              ]
              | inr off ↦
                  let number = base_numbered light choice base in
                  let base_was : is_base_at before dictionary light choice ≡ true = elim number [
                    | inl below ↦ known_base before entries kept dictionary light choice below base
                    | inr last ↦ ap (is_base_at before dictionary light) last ∙ entered_flag before light ∙ sym (entered_same before after (light_at before light) (is.entries_off light inside off)) ∙ sym (entered_flag after light) ∙ ap (is_base_at after dictionary light) (sym last) ∙ base
                  ] in
                  is.words_off light choice off ∙ was.words light choice inside base_was (subst (λ w. IsTrue (family.words light w)) (same_choice light choice inside off number) member)
            ];
        letters = λ cell letter member. is.letters cell letter ∙ and_from (old.letters cell letter) (may_stand after cell letter) (was.letters cell letter member) (supported.letters_agree cell letter member);
      }

  -- ---- the letters of words

  old_letter : (cell letter : ℕ) → new.letters cell letter ≡ true → old.letters cell letter ≡ true
  old_letter cell letter stands = (and_parts (old.letters cell letter) (may_stand after cell letter) (sym (is.letters cell letter) ∙ stands)).0

  may_be : (cell letter : ℕ) → new.letters cell letter ≡ true → is_capital letter ≡ true
  may_be cell letter stands =
      (and_parts (is_open before cell) (is_capital letter) (and_parts (is_open before cell && is_capital letter) (allows (entry before cell) letter) (exact_may before dictionary old.words old.letters exact cell letter (old_letter cell letter stands))).0).1

  -- a letter that stood and that the entry allows still stands
  still : (cell letter : ℕ) → old.letters cell letter ≡ true → allows (entry after cell) letter ≡ true → new.letters cell letter ≡ true
  still cell letter stood allowed =
      let may = and_parts (is_open before cell && is_capital letter) (allows (entry before cell) letter) (exact_may before dictionary old.words old.letters exact cell letter stood) in
      is.letters cell letter ∙ and_from (old.letters cell letter) (may_stand after cell letter) stood (and_from (is_open before cell && is_capital letter) (allows (entry after cell) letter) may.0 allowed)

  was_allowed : (cell letter : ℕ) → old.letters cell letter ≡ true → allows (entry before cell) letter ≡ true
  was_allowed cell letter stood = (and_parts (is_open before cell && is_capital letter) (allows (entry before cell) letter) (exact_may before dictionary old.words old.letters exact cell letter stood)).1

  allows_own : (o : Option ℕ) → is_some o ≡ true → allows o (unwrap_or o 65) ≡ true
  allows_own (Some letter) some = eq-eqb letter letter refl
  allows_own None some = absurd (false≢true some)

  -- the letter that a light which is wholly entered spells at a position
  spelled_at : (light position : ℕ) → position < length (light_at before light) → get_or (spelled after (light_at before light)) position 0 ≡ unwrap_or (entry after (cell_at before light position)) 65
  spelled_at light position below = get_or-map (λ cell. unwrap_or (entry after cell) 65) (light_at before light) position 0 0 below

  own_letter : (light position choice : ℕ) → IsPositionIn after light position → new.words light choice ≡ true → new.letters (cell_at after light position) (letter_of after dictionary light choice position) ≡ true
  own_letter light position choice here stands =
      let inside = here.0 in
      let cell = cell_at before light position in
      elim (cases_Bool (new.queued light)) [
        | inl on ↦ elim (numbered light choice stands) [
          | inl below ↦
              let both = and_parts (old.words light choice) (is_base_at after dictionary light choice) (sym (is.words_on light choice on below) ∙ stands) in
              let stood = exact_letters before dictionary old.words old.letters exact light choice inside both.0 position here.1 in
              let word = entry_at (known_words dictionary (length (light_at before light))) choice in
              let fits = and_parts word.active (agrees after (light_at before light) word.word) (and_parts (not (is_wholly_entered after (light_at before light))) (word.active && agrees after (light_at before light) word.word) (sym (base_flag_at after dictionary (light_at before light) choice below) ∙ both.1)).1 in
              let allowed = agrees_at after (light_at before light) word.word fits.1 position here.1 in
              let is_word : word.word ≡ choice_at before dictionary light choice = sym (listed light choice below) in
              ap (λ w. new.letters cell (get_or w position 0)) (known_choice before entries dictionary light choice below)
              ∙ still cell (letter_of before dictionary light choice position) stood (ap (λ w. allows (entry after cell) (get_or w position 0)) (sym is_word) ∙ allowed)
          | inr last ↦
              let whole : is_wholly_entered after (light_at before light) ≡ true = sym (entered_flag after light) ∙ ap (is_base_at after dictionary light) (sym last) ∙ within_words light choice stands in
              let by = full light inside (is.open_on light on) whole in
              let stood = exact_letters before dictionary old.words old.letters exact light by.0 inside by.1 position here.1 in
              let spells : get_or (choice_at after dictionary light choice) position 0 ≡ letter_of before dictionary light by.0 position = ap (λ n. get_or (choice_at after dictionary light n) position 0) last ∙ ap (λ w. get_or w position 0) (last_choice after light ∙ sym by.2) in
              let own : letter_of before dictionary light by.0 position ≡ unwrap_or (entry after cell) 65 = ap (λ w. get_or w position 0) by.2 ∙ spelled_at light position here.1 in
              ap (new.letters cell) spells
              ∙ still cell (letter_of before dictionary light by.0 position) stood (ap (allows (entry after cell)) own ∙ allows_own (entry after cell) (filled_at light position here.1 whole))
        ]
        | inr off ↦
            let stood = exact_letters before dictionary old.words old.letters exact light choice inside (sym (is.words_off light choice off) ∙ stands) position here.1 in
            let same = is.entries_off light inside off cell (Contains-get_or (light_at before light) position 0 here.1) in
            ap (λ w. new.letters cell (get_or w position 0)) (same_choice light choice inside off (numbered light choice stands))
            ∙ still cell (letter_of before dictionary light choice position) stood (ap (λ e. allows e (letter_of before dictionary light choice position)) same ∙ was_allowed cell (letter_of before dictionary light choice position) stood)
      ] where
        listed : (light choice : ℕ) → choice < known before dictionary light → choice_at before dictionary light choice ≡ (entry_at (known_words dictionary (length (light_at before light))) choice).word
        listed light choice below =
            let words = known_words dictionary (length (light_at before light)) in
            get_or_append_left (map (λ (word : Entry). word.word) words) (spelled before (light_at before light) ∷ []) [] choice (omega (arith, below, length-map words (λ (word : Entry). word.word)))
            ∙ get_or-map (λ (word : Entry). word.word) words choice no_entry [] below

        filled_at : (light position : ℕ) → position < length (light_at before light) → is_wholly_entered after (light_at before light) ≡ true → is_some (entry after (cell_at before light position)) ≡ true
        filled_at light position below whole = elim (cases_Bool (is_some (entry after (cell_at before light position)))) [
          | inl some ↦ some
          | inr none ↦ absurd (both_ways (is_wholly_entered after (light_at before light)) (list_all_at (λ cell. is_some (entry after cell)) (light_at before light) position 0 below none) whole)
        ]

  -- ---- ready for stripping

  same_puts : (light position letter choice : ℕ) → choice < known before dictionary light → puts after dictionary light position letter choice ≡ puts before dictionary light position letter choice
  same_puts light position letter choice below = ap (λ w. eqb (get_or w position 0) letter) (known_choice before entries dictionary light choice below)

  pub entered_holding : IsHolding before dictionary old → IsHolding after dictionary new
  entered_holding holding light position letter here capital below =
      let same = is.held (slot_at before light position) letter in
      let inner : old.held (slot_at before light position) letter < known before dictionary light = omega (arith, below, same) in
      ap (puts after dictionary light position letter) same ∙ same_puts light position letter (old.held (slot_at before light position) letter) inner ∙ holding light position letter here capital inner

  pub entered_ready : IsHolding before dictionary old → IsSound before dictionary old → IsReady after dictionary new
  entered_ready holding sound = record {
    sound = record {
      within = record {
        lights = is.lights;
        words = within_words;
        letters = λ cell letter stands. (and_parts (old.letters cell letter) (may_stand after cell letter) (sym (is.letters cell letter) ∙ stands)).1;
      };
      covers = covers;
      spelled = λ light position choice here stands. or_left (new.letters (cell_at after light position) (letter_of after dictionary light choice position)) (new.pending (slot_at after light position) (letter_of after dictionary light choice position)) (own_letter light position choice here stands);
      pending_gone = λ light position letter here pends. absurd (both_ways (new.pending (slot_at after light position) letter) (is.pending (slot_at after light position) letter) pends);
      pending_queued = λ light position letter here pends. absurd (both_ways (new.pending (slot_at after light position) letter) (is.pending (slot_at after light position) letter) pends);
      hits = λ light position letter here stands below. entered_holding holding light position letter here (may_be (cell_at after light position) letter stands) below;
      first = λ light position letter choice here stands below never inner stood has.
          let slot = slot_at before light position in
          let same = is.held slot letter in
          let most = sound.first light position letter choice here (old_letter (cell_at after light position) letter stands) (omega (arith, below, same)) (sym (is.restart slot letter) ∙ never) inner (old_word light choice inner stood) (sym (same_puts light position letter choice inner) ∙ has) in
          omega (arith, same, most);
    };
    held = λ light position letter here off stands.
        let found = exact_words before dictionary old.words old.letters exact light position letter here.0 here.1 (old_letter (cell_at after light position) letter stands) in
        let stays = is.words_off light found.0 off ∙ found.1 in
        by_word found.0 stays (eq-eqb (letter_of after dictionary light found.0 position) letter (ap (λ w. get_or w position 0) (same_choice light found.0 here.0 off (numbered light found.0 stays)) ∙ found.2));
  } where
    old_word : (light choice : ℕ) → choice < known before dictionary light → new.words light choice ≡ true → old.words light choice ≡ true
    old_word light choice below stands = elim (cases_Bool (new.queued light)) [
      | inl on ↦ (and_parts (old.words light choice) (is_base_at after dictionary light choice) (sym (is.words_on light choice on below) ∙ stands)).0
      | inr off ↦ sym (is.words_off light choice off) ∙ stands
    ]
