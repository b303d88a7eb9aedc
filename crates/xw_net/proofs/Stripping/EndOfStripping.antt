-- Taking a light from the queue, and the end of stripping, when the queue is empty.
use Rattle.std.proofs.Common.{◌≡◌, ◌≢◌, ℕ, ◌<◌, Bool, true, false, not, ◌&&◌, eqb, Some, None, List, map, length, refl, sym, ap, ◌∙◌, subst, inl, inr, arith}
use Rattle.std.specs.Prelude.{Option, is_some, unwrap_or}
use Rattle.std.proofs.lemmas.Bool.{cases_Bool, cases_eq, both_ways, and_parts, and_from, or_cases, or_left, or_right, eq-eqb, eqb-true, not_from_false, false_from_ne_true, ne_eqb, false≢true}
use Rattle.std.proofs.lemmas.List.{get_or_push, length-map}
use Rattle.std.proofs.lemmas.List.Folds.{list_all_at}
use Rattle.xw_letters.specs.Letter.{is_capital}
use Rattle.xw_words.specs.Dictionary.{Dictionary, Entry, known_words}
use Rattle.xw_feas.specs.Board.{Board, light_at, entry, is_open, allows, agrees, is_wholly_entered}
use Rattle.xw_feas.specs.Choices.{SupportsItself, IsExact}
use Rattle.xw_feas.proofs.Support.{exact_when_none_unsupported}
use Rattle.xw_net.specs.Marks.{Marks, IsPositionIn, cell_at, slot_at, IsSetting, known, letter_of, IsHeld, IsSound, IsReady, IsSettledNet}
use Rattle.xw_net.specs.Marks.IsHeld.{by_held, by_word, by_entered}
use Rattle.xw_net.specs.Due.{due_letter, Measure, IsUnderway, and_light}
use Rattle.xw_net.proofs.Costs.DueTicks.{due-le}
use Rattle.xw_net.proofs.Stripping.WordsByNumber.{letter_entered}

-- ---- taking a light from the queue

module _ (board : Board) (dictionary : Dictionary) (marks : Marks) (queued : ℕ → Bool) (i : ℕ) (is : (j : ℕ) → queued j ≡ (marks.queued j && not (eqb j i))) where
  abbrev pub taken : Marks
  taken = record { words = marks.words; letters = marks.letters; held = marks.held; restart = marks.restart; pending = marks.pending; queued = queued }

  still_queued : (j : ℕ) → j ≢ i → marks.queued j ≡ true → queued j ≡ true
  still_queued j n h = is j ∙ and_from (marks.queued j) (not (eqb j i)) h (not_from_false (eqb j i) (ne_eqb j i n))

  was_queued : (j : ℕ) → queued j ≡ true → marks.queued j ≡ true
  was_queued j h = (and_parts (marks.queued j) (not (eqb j i)) (sym (is j) ∙ h)).0

  taken_off : (j : ℕ) → and_light queued i j ≡ false → marks.queued j ≡ false
  taken_off j off =
      false_from_ne_true (marks.queued j) (λ h.
      both_ways (and_light queued i j) off
      (elim (cases_eq j i) [
        | inl e ↦ or_right (queued j) (eqb j i) (eq-eqb j i e)
        | inr n ↦ or_left (queued j) (eqb j i) (still_queued j n h)
      ]))

  still_held : (j r d : ℕ) → IsHeld board dictionary marks j r d → IsHeld board dictionary taken j r d
  still_held j r d held = elim held [
    | by_held lt stands ↦ by_held lt stands
    | by_word choice stands has ↦ by_word choice stands has
    | by_entered stands ↦ by_entered stands
  ]

  taken_sound : ((position letter : ℕ) → IsPositionIn board i position → marks.pending (slot_at board i position) letter ≡ false) → IsSound board dictionary marks → IsSound board dictionary taken
  taken_sound cleared sound = record {
    within = sound.within;
    covers = sound.covers;
    spelled = sound.spelled;
    pending_gone = sound.pending_gone;
    pending_queued = λ j r d here h.
        elim (cases_eq j i) [
          | inl e ↦ absurd (both_ways (marks.pending (slot_at board j r) d) (subst (λ n. IsPositionIn board n r → marks.pending (slot_at board n r) d ≡ false) (sym e) (cleared r d) here) h)
          | inr n ↦ still_queued j n (sound.pending_queued j r d here h)
        ];
    hits = sound.hits;
    first = sound.first;
  }

  pub taken_under : (measure : Measure) (spent : ℕ) → ((position letter : ℕ) → IsPositionIn board i position → marks.pending (slot_at board i position) letter ≡ false)
      → IsUnderway board dictionary measure marks marks.queued spent → IsUnderway board dictionary measure taken (and_light queued i) spent
  unfolding due_letter
  taken_under measure spent cleared under = record {
    kept = record {
      sound = taken_sound cleared under.kept.sound;
      held = λ j r d here off alive. still_held j r d (under.kept.held j r d here (taken_off j off) alive);
    };
    paid = record {
      closed = under.paid.closed;
      within = omega (arith, under.paid.within, due-le board dictionary measure.member marks taken (λ j r k here lt. omega arith));
      queued = λ j lt h. under.paid.queued j lt (was_queued j h);
      fewer = under.paid.fewer;
    };
  }

-- a light whose letters all have support joins the lights that are done
pub kept_all : (board : Board) (dictionary : Dictionary) (measure : Measure) (marks : Marks) (i spent : ℕ)
    → ((position letter : ℕ) → IsPositionIn board i position → marks.letters (cell_at board i position) letter ≡ true → IsHeld board dictionary marks i position letter)
    → IsUnderway board dictionary measure marks (and_light marks.queued i) spent → IsUnderway board dictionary measure marks marks.queued spent
kept_all board dictionary measure marks i spent all under = record {
  kept = record {
    sound = under.kept.sound;
    held = λ j r d here off alive.
        elim (cases_eq j i) [
          | inl e ↦ subst (λ n. IsPositionIn board n r → marks.letters (cell_at board n r) d ≡ true → IsHeld board dictionary marks n r d) (sym e) (all r d) here alive
          | inr n ↦
              under.kept.held j r d here
              (false_from_ne_true (and_light marks.queued i j) (λ h.
              elim (or_cases (marks.queued j) (eqb j i) h) [
                | inl waits ↦ both_ways (marks.queued j) off waits
                | inr same ↦ n (eqb-true j i same)
              ])) alive
        ];
  };
  paid = under.paid;
}

-- ---- the end

pub settled_net : (board : Board) (dictionary : Dictionary) (marks : Marks) → IsReady board dictionary marks → ((light : ℕ) → light < length board.lights → marks.queued light ≡ false) → IsSettledNet board dictionary marks
settled_net board dictionary marks ready none = record {
  ready = ready;
  none_queued = none;
  none_pending = λ light position letter here.
      false_from_ne_true (marks.pending (slot_at board light position) letter) (λ h. both_ways (marks.queued light) (none light here.0) (ready.sound.pending_queued light position letter here h));
}

pub some_is : (o : Option ℕ) → is_some o ≡ true → o ≡ Some (unwrap_or o 65)
some_is (Some letter) h = refl
some_is None h = absurd (false≢true h)

module _ (board : Board) (entries : ℕ → List Entry) (dictionary : Dictionary) (setting : IsSetting board entries dictionary) (marks : Marks) (settled : IsSettledNet board dictionary marks) where
  -- a light with its entered word in the net is filled
  wholly_entered : (light : ℕ) → marks.words light (known board dictionary light) ≡ true → is_wholly_entered board (light_at board light) ≡ true
  wholly_entered light stands =
      let cells = light_at board light in
      let flags = map (λ (word : Entry). not (is_wholly_entered board cells) && (word.active && agrees board cells word.word)) (known_words dictionary (length cells)) in
      sym (get_or_push flags (is_wholly_entered board cells) false (known board dictionary light) (length-map (known_words dictionary (length cells)) (λ (word : Entry). not (is_wholly_entered board cells) && (word.active && agrees board cells word.word))))
      ∙ settled.ready.sound.within.words light (known board dictionary light) stands

  -- the entered word has each letter in the net at its cells
  entered_has : (light position letter : ℕ) → IsPositionIn board light position → marks.words light (known board dictionary light) ≡ true → marks.letters (cell_at board light position) letter ≡ true
      → letter_of board dictionary light (known board dictionary light) position ≡ letter
  entered_has light position letter here stands alive =
      let cell = cell_at board light position in
      let filled : is_some (entry board (cell_at board light position)) ≡ true =
      elim (cases_Bool (is_some (entry board (cell_at board light position)))) [
        | inl yes_it_is ↦ yes_it_is
        | inr empty ↦
            absurd (both_ways (is_wholly_entered board (light_at board light)) (list_all_at (λ cell. is_some (entry board cell)) (light_at board light) position 0 here.1 empty) (wholly_entered light stands))
      ] in
      let holds = some_is (entry board cell) filled in
      let may = settled.ready.sound.within.letters cell letter alive in
      let allowed : allows (entry board (cell_at board light position)) letter ≡ true = (and_parts (is_open board cell && is_capital letter) (allows (entry board cell) letter) may).1 in
      letter_entered board entries dictionary setting light position here ∙ eqb-true (unwrap_or (entry board cell) 65) letter (sym (ap (λ o. allows o letter) holds) ∙ allowed)

  supports_itself : SupportsItself board dictionary marks.words marks.letters
  supports_itself light lt = record {
    words = λ choice stands k below.
        let b = letter_of board dictionary light choice k in
        elim (or_cases (marks.letters (cell_at board light k) b) (marks.pending (slot_at board light k) b) (settled.ready.sound.spelled light k choice (lt, below) stands)) [
          | inl alive ↦ alive
          | inr waits ↦ absurd (both_ways (marks.pending (slot_at board light k) b) (settled.none_pending light k b (lt, below)) waits)
        ];
    letters = λ k below letter alive.
        elim (settled.ready.held light k letter (lt, below) (settled.none_queued light lt) alive) [
          | by_held known_one stands ↦ (marks.held (slot_at board light k) letter, stands, eqb-true (letter_of board dictionary light (marks.held (slot_at board light k) letter) k) letter (settled.ready.sound.hits light k letter (lt, below) alive known_one))
          | by_word choice stands has ↦ (choice, stands, eqb-true (letter_of board dictionary light choice k) letter has)
          | by_entered stands ↦ (known board dictionary light, stands, entered_has light k letter (lt, below) stands alive)
        ];
  }

  -- the words and letters in the net are exactly the feasible ones
  pub settled_exact : IsExact board dictionary marks.words marks.letters
  settled_exact = exact_when_none_unsupported board dictionary marks.words marks.letters settled.ready.sound.covers settled.ready.sound.within supports_itself
