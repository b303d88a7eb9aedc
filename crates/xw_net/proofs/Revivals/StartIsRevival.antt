-- The state at which a revival starts after an edit.
use Rattle.std.proofs.Common.{◌≡◌, ℕ, zero, suc, ◌<◌, Bool, true, false, not, ◌&&◌, List, [], ◌∷◌, length, get_or, Some, None, refl, sym, ◌∙◌, ap, arith, inl, inr}
use Rattle.std.specs.Prelude.{Option, is_some}
use Rattle.std.proofs.lemmas.Bool.{and_parts, and_from, cases_lt, cases_Bool, both_ways}
use Rattle.std.proofs.lemmas.List.{get_or_append_left, get_or_push, length-map, get_or_default}
use Rattle.xw_words.specs.Dictionary.{Entry, Dictionary, known_words}
use Rattle.xw_feas.specs.Known.{spellings, actives}
use Rattle.xw_feas.specs.Board.{Board, entry, light_at, allows, agrees, is_wholly_entered, spelled as board_spelled}
use Rattle.xw_feas.specs.Choices.{choices, base_flags, choice_at, is_base_at, IsExact}
use Rattle.xw_feas.proofs.ChoicesLemmas.{base_flag_known, base_flag_entered, length-base_flags}
use Rattle.xw_feas.proofs.Support.{set_flag_within}
use Rattle.xw_net.specs.Revival.{IsMatching, IsKept}
use Rattle.xw_net.specs.Marks.{Marks, slot_at, known}
use Rattle.xw_net.specs.Brought.{IsBegun, IsCarried}
use Rattle.xw_net.specs.Begin.{IsStarted}
use Rattle.xw_net.proofs.Edits.ExactFamilies.{exact_base}
use Rattle.xw_net.proofs.Revivals.RevivalCovers.{was-gives, was-from}
use Rattle.xw_net.proofs.Edits.KeptBaseWords.{HaveSameEntries, AllowNoMore, entered_same, spelled_same}

-- a light keeps its known words and entries, except that fewer of its base words may be active
pub record IsNarrowedBut (before after : Board) (old new : Dictionary) (cells : List ℕ) : Type 0 where
  pub entries : AllowNoMore before after cells
  pub words : spellings new (length cells) ≡ spellings old (length cells)
  pub active : (k : ℕ) → get_or (base_flags after new cells) k false ≡ true → get_or (actives new (length cells)) k false ≡ true → get_or (actives old (length cells)) k false ≡ true
  pub entered : is_wholly_entered after cells ≡ is_wholly_entered before cells
  pub word : is_wholly_entered after cells ≡ true → board_spelled after cells ≡ board_spelled before cells

agrees_less : (before after : Board) (cells word : List ℕ) → AllowNoMore before after cells → agrees after cells word ≡ true → agrees before cells word ≡ true
agrees_less before after [] [] less h = refl
agrees_less before after [] (letter ∷ letters) less h = h
agrees_less before after (cell ∷ cells) [] less h = h
agrees_less before after (cell ∷ cells) (letter ∷ letters) less h =
    let both = and_parts (allows (entry after cell) letter) (agrees after cells letters) h in
    and_from _ _ (less cell (0, omega arith, refl) letter both.0) (agrees_less before after cells letters (λ other in_cells. less other (suc in_cells.0, omega (arith, in_cells.1), in_cells.2)) both.1)

abbrev WasOne : Board → Board → Dictionary → Dictionary → List ℕ → ℕ → Type 0
WasOne before after old new cells choice = (get_or (base_flags before old cells) choice false ≡ true) × (get_or (choices before old cells) choice [] ≡ get_or (choices after new cells) choice [])

choices_same : (before after : Board) (old new : Dictionary) (cells : List ℕ) → IsNarrowedBut before after old new cells → (choice : ℕ) → choice < length (spellings new (length cells)) → get_or (choices before old cells) choice [] ≡ get_or (choices after new cells) choice []
choices_same before after old new cells narrow choice below =
    let long = ap length narrow.words in
    get_or_append_left (spellings old (length cells)) (board_spelled before cells ∷ []) [] choice (omega arith)
    ∙ ap (λ ws. get_or ws choice []) (sym narrow.words)
    ∙ sym (get_or_append_left (spellings new (length cells)) (board_spelled after cells ∷ []) [] choice below)

narrowed_one : (before after : Board) (old new : Dictionary) (cells : List ℕ) → IsNarrowedBut before after old new cells → (choice : ℕ) → get_or (base_flags after new cells) choice false ≡ true → WasOne before after old new cells choice
narrowed_one before after old new cells narrow choice h =
    let within = set_flag_within (base_flags after new cells) choice h in
    let long = ap length narrow.words in
    elim (cases_lt choice (length (spellings new (length cells)))) [
      | inl below ↦
          let flags = sym (base_flag_known after new cells choice below) ∙ h in
          let parts = and_parts (not (is_wholly_entered after cells)) (get_or (actives new (length cells)) choice false && agrees after cells (get_or (spellings new (length cells)) choice [])) flags in
          let rest = and_parts (get_or (actives new (length cells)) choice false) (agrees after cells (get_or (spellings new (length cells)) choice [])) parts.1 in
          let word : get_or (spellings new (length cells)) choice [] ≡ get_or (spellings old (length cells)) choice [] = ap (λ ws. get_or ws choice []) narrow.words in (
            base_flag_known before old cells choice (omega arith)
                ∙ and_from _ _ (ap not (sym narrow.entered) ∙ parts.0)
                (and_from _ _ (narrow.active choice h rest.0)
                (agrees_less before after cells (get_or (spellings old (length cells)) choice []) narrow.entries (ap (agrees after cells) (sym word) ∙ rest.1))),
            choices_same before after old new cells narrow choice below,
          )
      | inr past ↦
          let last : choice ≡ length (spellings new (length cells)) = omega (arith, length-base_flags after new cells) in
          let last_before : choice ≡ length (spellings old (length cells)) = omega arith in
          let entered : is_wholly_entered after cells ≡ true = sym (base_flag_entered after new cells choice last) ∙ h in (
            base_flag_entered before old cells choice last_before ∙ sym narrow.entered ∙ entered,
            get_or_push (spellings old (length cells)) (board_spelled before cells) [] choice (sym last_before)
                ∙ sym (narrow.word entered)
                ∙ sym (get_or_push (spellings new (length cells)) (board_spelled after cells) [] choice (sym last)),
          )
    ]

-- a light with an empty cell is not filled
pub empty_not_whole : (board : Board) (cells : List ℕ) (k : ℕ) → k < length cells → entry board (get_or cells k 0) ≡ None → is_wholly_entered board cells ≡ false
empty_not_whole board [] k below empty = absurd (omega arith)
empty_not_whole board (first ∷ cells) zero below empty = ap (λ e. is_some e && is_wholly_entered board cells) empty
empty_not_whole board (first ∷ cells) (suc k) below empty = ap (λ b. is_some (entry board first) && b) (empty_not_whole board cells k (omega arith) empty) ∙ none (is_some (entry board first)) where
  none : (b : Bool) → (b && false) ≡ false
  none true = refl
  none false = refl

module _ (before after : Board) (old new : Dictionary) (same : ℕ → Option ℕ) (settled start : Marks) (seed : ℕ → Bool)
    (matching : IsMatching before after same) (started : IsStarted before after old new same settled start seed) where
  module _ (light : ℕ) (in_board : light < length after.lights) (no_seed : seed light ≡ false) where
    cells : List ℕ
    cells = light_at after light

    less : AllowNoMore before after (light_at after light)
    less cell in_cells letter h = split (entry before cell) refl where
      split : (o : Option ℕ) → entry before cell ≡ o → allows (entry before cell) letter ≡ true
      split None empty = ap (λ e. allows e letter) empty
      split (Some entered) had = ap (λ e. allows e letter) (sym (started.entry_kept light cell entered in_board no_seed in_cells had)) ∙ h

    -- if it was filled, no entry changed
    whole_same : is_wholly_entered before (light_at after light) ≡ true → HaveSameEntries before after (light_at after light)
    whole_same whole cell in_cells = split (entry before cell) refl where
      split : (o : Option ℕ) → entry before cell ≡ o → entry after cell ≡ entry before cell
      split None empty = absurd (both_ways _ (empty_not_whole before (light_at after light) in_cells.0 in_cells.1 (ap (entry before) (get_or_default (light_at after light) in_cells.0 0 cell in_cells.1 ∙ in_cells.2) ∙ empty)) whole)
      split (Some entered) had = started.entry_kept light cell entered in_board no_seed in_cells had

    calm_same : start.queued light ≡ false → HaveSameEntries before after (light_at after light)
    calm_same calm cell in_cells = started.entry_calm light cell in_board calm no_seed in_cells

    -- if it is filled, no entry changed
    whole_now : is_wholly_entered after (light_at after light) ≡ true → HaveSameEntries before after (light_at after light)
    whole_now whole = elim (cases_Bool (start.queued light)) [
      | inl queued ↦ absurd (both_ways _ no_seed (started.entered light in_board queued whole))
      | inr calm ↦ calm_same calm
    ]

    narrow : IsNarrowedBut before after old new (light_at after light)
    narrow = record {
      entries = less;
      words = started.spelled light in_board no_seed;
      active = λ k. started.active light k in_board no_seed;
      entered = elim (cases_Bool (is_wholly_entered after (light_at after light))) [
        | inl whole ↦ entered_same before after (light_at after light) (whole_now whole)
        | inr not_whole ↦ elim (cases_Bool (is_wholly_entered before (light_at after light))) [
          | inl whole ↦ entered_same before after (light_at after light) (whole_same whole)
          | inr was_not ↦ not_whole ∙ sym was_not
        ]
      ];
      word = λ whole. spelled_same before after (light_at after light) (whole_now whole);
    }

    one : (choice : ℕ) → is_base_at after new light choice ≡ true → WasOne before after old new (light_at after light) choice
    one = narrowed_one before after old new (light_at after light) narrow

    kept : IsKept before after old new same light
    kept choice h =
        let other = started.matched light in_board no_seed in
        let cells_same = matching.cells light other.0 in_board other.1 in
        let had = one choice h in
        was-from before after old new same (is_base_at before old) light choice other.0 other.1
        (ap (λ cs. get_or (base_flags before old cs) choice false) (sym cells_same) ∙ had.0)
        (ap (λ cs. get_or (choices before old cs) choice []) (sym cells_same) ∙ had.1)

    as_many : known after new light ≡ length (known_words old (length (light_at after light)))
    as_many = sym (length-map (known_words new (length (light_at after light))) (λ (word : Entry). word.word)) ∙ ap length (started.spelled light in_board no_seed) ∙ length-map (known_words old (length (light_at after light))) (λ (word : Entry). word.word)

    -- the number of an earlier base word denotes the same word
    same_choice : (other choice : ℕ) → same light ≡ Some other → is_base_at before old other choice ≡ true → choice_at before old other choice ≡ choice_at after new light choice
    same_choice other choice at base_there =
        let cells_same = matching.cells light other in_board at in
        let base : get_or (base_flags before old (light_at after light)) choice false ≡ true = ap (λ cs. get_or (base_flags before old cs) choice false) cells_same ∙ base_there in
        let long = ap length narrow.words in
        let within = set_flag_within (base_flags before old (light_at after light)) choice base in
        ap (λ cs. get_or (choices before old cs) choice []) (sym cells_same) ∙
        elim (cases_lt choice (length (spellings new (length (light_at after light))))) [
          | inl below ↦ choices_same before after old new (light_at after light) narrow choice below
          | inr past ↦
              let last_before : choice ≡ length (spellings old (length (light_at after light))) = omega (arith, length-base_flags before old (light_at after light)) in
              let last : choice ≡ length (spellings new (length (light_at after light))) = omega arith in
              let whole : is_wholly_entered before (light_at after light) ≡ true = sym (base_flag_entered before old (light_at after light) choice last_before) ∙ base in
              get_or_push (spellings old (length (light_at after light))) (board_spelled before (light_at after light)) [] choice (sym last_before)
              ∙ sym (spelled_same before after (light_at after light) (whole_same whole))
              ∙ sym (get_or_push (spellings new (length (light_at after light))) (board_spelled after (light_at after light)) [] choice (sym last))
        ]

module _ (before after : Board) (old new : Dictionary) (same : ℕ → Option ℕ) (settled start : Marks) (seed : ℕ → Bool)
    (matching : IsMatching before after same) (exact : IsExact before old settled.words settled.letters) (started : IsStarted before after old new same settled start seed) where
  stood_base : (light other choice : ℕ) → light < length after.lights → same light ≡ Some other → settled.words other choice ≡ true → is_base_at before old other choice ≡ true
  stood_base light other choice in_board at stood = exact_base before old settled.words settled.letters exact other choice (matching.lights light other in_board at) stood

  choice_same : (light other choice : ℕ) → light < length after.lights → seed light ≡ false → same light ≡ Some other → settled.words other choice ≡ true → choice_at before old other choice ≡ choice_at after new light choice
  choice_same light other choice in_board no_seed at stood =
      same_choice before after old new same settled start seed matching started light in_board no_seed other choice at (stood_base light other choice in_board at stood)

  pub started_begun : IsBegun before after old new same settled.words settled.letters start.words start.letters seed
  started_begun = record {
    kept = λ light in_board no_seed. kept before after old new same settled start seed matching started light in_board no_seed;
    words_kept = λ light choice in_board no_seed.
        let other = started.matched light in_board no_seed in
        elim (cases_Bool (start.queued light)) [
          | inl queued ↦ (
            λ stands.
                let both = and_parts (settled.words other.0 choice) (is_base_at after new light choice) (sym (started.words_on light other.0 choice in_board no_seed queued other.1) ∙ stands) in
                (both.1, was-from before after old new same settled.words light choice other.0 other.1 both.0 (choice_same light other.0 choice in_board no_seed other.1 both.0)),
            λ both.
                let found = was-gives before after old new same settled.words light choice both.1 in
                started.words_on light found.0 choice in_board no_seed queued found.1 ∙ and_from _ _ found.2 both.0,
          )
          | inr calm ↦ (
            λ stands.
                let stood = sym (started.words_off light other.0 choice in_board no_seed calm other.1) ∙ stands in (
                  started.words_calm light other.0 choice in_board calm no_seed other.1 stood,
                  was-from before after old new same settled.words light choice other.0 other.1 stood (choice_same light other.0 choice in_board no_seed other.1 stood),
                ),
            λ both.
                let found = was-gives before after old new same settled.words light choice both.1 in
                started.words_off light found.0 choice in_board no_seed calm found.1 ∙ found.2,
          )
        ];
    letters_kept = started.letters_stay;
    letters_come = started.letters_come;
    freed = started.freed;
    seeds = started.letters_reach;
  }

  pub started_carried : IsCarried before after old new same settled start seed
  started_carried = record {
    lights = started.lights;
    matched = started.matched;
    as_many = λ light other in_board no_seed at.
        as_many before after old new same settled start seed matching started light in_board no_seed ∙ ap (λ cs. length (known_words old (length cs))) (matching.cells light other in_board at);
    choices = choice_same;
    calm = λ light choice in_board no_seed calm was_there.
        let found = was-gives before after old new same settled.words light choice was_there in
        started.words_calm light found.0 choice in_board calm no_seed found.1 found.2;
    letters = started.letters_from;
    held = started.held;
    restart = λ light position letter here no_seed. started.restart (slot_at after light position) letter;
    pending = started.pending;
    hits = started.hits;
  }
