-- Each step of stripping keeps the invariant of the marks, and its ticks are paid from those due.
use Rattle.std.proofs.Common.{◌≡◌, ◌≢◌, ℕ, ◌+◌, ◌-◌, ◌*◌, ◌/◌, ◌<◌, ◌≤◌, true, false, not, ◌&&◌, ◌||◌, cond, eqb, get_or, refl, sym, ap, ◌∙◌, subst, inl, inr, arith}
use Rattle.std.specs.Prelude.{IsTrue}
use Rattle.std.proofs.lemmas.Bool.{cases_eq, cases_Bool, cases_lt, and_parts, and_from, or_cases, or_left, or_right, both_ways, eq-eqb, eqb-true, not_from_false, not_from_true, and_right, false_from_ne_true}
use Rattle.std.proofs.Math.Logic.{∥∥₁_elim}
use mathlib.Core.Bool.{Bool-set}
use Rattle.xw_letters.specs.Letter.{IsLetter, is_capital}
use Rattle.xw_letters.proofs.LetterSetLemmas.{capital_is_letter}
use Rattle.xw_words.specs.Dictionary.{Dictionary}
use Rattle.xw_feas.specs.Board.{Board, light_at, is_open, entry, allows}
use Rattle.xw_feas.specs.Feasible.{Family, IsSupported, may_stand}
use Rattle.xw_feas.specs.Choices.{choice_at, Covers}
use Rattle.xw_feas.proofs.Support.{number_of_base, base_words_here}
use Rattle.xw_net.specs.Marks.{Marks, side_of, Drops, IsPositionIn, cell_at, slot_at, AreSlotsApart, known, letter_of, puts, IsHeld, IsSound, IsKept}
use Rattle.xw_net.specs.Marks.IsHeld.{by_held, by_word, by_entered}
use Rattle.xw_net.specs.Due.{sum_letters, chunks, due_of, due_letter, due_position, Measure, IsPaid}
use Rattle.xw_net.proofs.Costs.SumsBelow.{sum_to-le, sum_to-add, sum_to-times}
use Rattle.xw_net.proofs.Costs.DueTicks.{due-same, due-fewer, due-cleared, due-dies, due-alike, due-nowhere, due-moves, due-falls, position-falls, IsFrom}

-- the words with a pending letter at a position were removed from the light
pub record IsStruck (board : Board) (dictionary : Dictionary) (marks new : Marks) (i q : ℕ) : Type 0 where
  pub rest : (j k : ℕ) → j ≢ i → new.words j k ≡ marks.words j k
  pub fewer : (k : ℕ) → new.words i k ≡ true → marks.words i k ≡ true
  pub struck : (k : ℕ) → new.words i k ≡ true → marks.pending (slot_at board i q) (letter_of board dictionary i k q) ≡ false
  pub kept : (k : ℕ) → marks.words i k ≡ true → marks.letters (cell_at board i q) (letter_of board dictionary i k q) ≡ true → new.words i k ≡ true
  pub letters : (x b : ℕ) → new.letters x b ≡ marks.letters x b
  pub held : (s b : ℕ) → new.held s b ≡ marks.held s b
  pub restart : (s b : ℕ) → new.restart s b ≡ marks.restart s b
  pub queued : (j : ℕ) → new.queued j ≡ marks.queued j
  pub cleared : (b : ℕ) → new.pending (slot_at board i q) b ≡ false
  pub pending_rest : (s b : ℕ) → s ≢ slot_at board i q → new.pending s b ≡ marks.pending s b

-- another word in the net is held for a letter
pub record IsHung (board : Board) (dictionary : Dictionary) (marks new : Marks) (i q b word : ℕ) : Type 0 where
  pub words : (j k : ℕ) → new.words j k ≡ marks.words j k
  pub held_here : new.held (slot_at board i q) b ≡ word
  pub held_rest : (s d : ℕ) → IsLetter d → ((s ≡ slot_at board i q) × (d ≡ b) → ⊥) → new.held s d ≡ marks.held s d
  pub within : word < known board dictionary i
  pub stands : marks.words i word ≡ true

-- it is the first word that has the letter
pub record IsMoved (board : Board) (dictionary : Dictionary) (marks new : Marks) (i q b word from : ℕ) : Type 0 where
  pub hung : IsHung board dictionary marks new i q b word
  pub letters : (x d : ℕ) → new.letters x d ≡ marks.letters x d
  pub pending : (s d : ℕ) → new.pending s d ≡ marks.pending s d
  pub queued : (j : ℕ) → new.queued j ≡ marks.queued j
  pub restart_here : new.restart (slot_at board i q) b ≡ false
  pub restart_rest : (s d : ℕ) → ((s ≡ slot_at board i q) × (d ≡ b) → ⊥) → new.restart s d ≡ marks.restart s d
  pub stood : marks.letters (cell_at board i q) b ≡ true
  pub has : puts board dictionary i q b word ≡ true
  pub none_before : (k : ℕ) → k < word → marks.words i k ≡ true → puts board dictionary i q b k ≡ true → ⊥
  pub from_is : IsFrom (known board dictionary i) (marks.held (slot_at board i q) b) (marks.restart (slot_at board i q) b) from
  pub lost : marks.held (slot_at board i q) b < known board dictionary i → marks.words i (marks.held (slot_at board i q) b) ≡ false

-- a letter was removed that no word of a light has at a position
pub record IsDropped (board : Board) (dictionary : Dictionary) (marks new : Marks) (i q b from : ℕ) : Type 0 where
  pub words : (j k : ℕ) → new.words j k ≡ marks.words j k
  pub held : (s d : ℕ) → new.held s d ≡ marks.held s d
  pub restart : (s d : ℕ) → new.restart s d ≡ marks.restart s d
  pub stood : marks.letters (cell_at board i q) b ≡ true
  pub drops : Drops board i q b marks new
  pub no_word : (k : ℕ) → marks.words i k ≡ true → puts board dictionary i q b k ≡ true → ⊥
  pub from_is : IsFrom (known board dictionary i) (marks.held (slot_at board i q) b) (marks.restart (slot_at board i q) b) from

-- an allowed letter is one of A to Z
may_letter : (board : Board) (y d : ℕ) → IsTrue (may_stand board y d) → IsLetter d
may_letter board y d may = capital_is_letter d (and_parts (is_open board y) (is_capital d) (and_parts (is_open board y && is_capital d) (allows (entry board y) d) may).0).1

module _ (board : Board) (dictionary : Dictionary) (apart : AreSlotsApart board) where
  -- positions with the same slot are the same
  here_too : (P : ℕ → ℕ → Type 0) (i q j r : ℕ) → IsPositionIn board i q → IsPositionIn board j r → slot_at board j r ≡ slot_at board i q → P i q → P j r
  here_too P i q j r position here same h =
      let e = apart i q j r position here (sym same) in
      subst (λ n. P j n) e.1 (subst (λ n. P n q) e.0 h)

  -- ---- words are removed from a light

  module _ (marks new : Marks) (i q : ℕ) (position : IsPositionIn board i q) (queued : marks.queued i ≡ true) (is : IsStruck board dictionary marks new i q) where
    in_old : (j k : ℕ) → new.words j k ≡ true → marks.words j k ≡ true
    in_old j k h =
        elim (cases_eq j i) [
          | inl e ↦ ap (λ n. marks.words n k) e ∙ is.fewer k (ap (λ n. new.words n k) (sym e) ∙ h)
          | inr n ↦ sym (is.rest j k n) ∙ h
        ]

    was_pending : (s d : ℕ) → new.pending s d ≡ true → marks.pending s d ≡ true
    was_pending s d h =
        elim (cases_eq s (slot_at board i q)) [
          | inl e ↦ absurd (both_ways (new.pending s d) (ap (λ n. new.pending n d) e ∙ is.cleared d) h)
          | inr n ↦ sym (is.pending_rest s d n) ∙ h
        ]

    strike_covers : (sound : IsSound board dictionary marks) (family : Family) → IsSupported board dictionary family → Covers board dictionary new.words new.letters family
    strike_covers sound family supported = record {
      words = λ j k in_board base member.
          let stood = (sound.covers family supported).words j k in_board base member in
          elim (cases_eq j i) [
            | inl e ↦
                let at : IsTrue (family.words i (choice_at board dictionary i k)) = subst (λ n. IsTrue (family.words n (choice_at board dictionary n k))) e member in
                ap (λ n. new.words n k) e
                ∙ is.kept k (ap (λ n. marks.words n k) (sym e) ∙ stood) ((sound.covers family supported).letters (cell_at board i q) (letter_of board dictionary i k q) (supported.words_have_letters i (choice_at board dictionary i k) at q position.1))
            | inr n ↦ is.rest j k n ∙ stood
          ];
      letters = λ x b h. is.letters x b ∙ (sound.covers family supported).letters x b h;
    }

    strike_spelled : (sound : IsSound board dictionary marks) (j r k : ℕ) → IsPositionIn board j r → new.words j k ≡ true
        → (new.letters (cell_at board j r) (letter_of board dictionary j k r) || new.pending (slot_at board j r) (letter_of board dictionary j k r)) ≡ true
    strike_spelled sound j r k here h =
        let b = letter_of board dictionary j k r in
        elim (or_cases (marks.letters (cell_at board j r) b) (marks.pending (slot_at board j r) b) (sound.spelled j r k here (in_old j k h))) [
          | inl alive ↦ or_left (new.letters (cell_at board j r) b) (new.pending (slot_at board j r) b) (is.letters (cell_at board j r) b ∙ alive)
          | inr waits ↦
              elim (cases_eq (slot_at board j r) (slot_at board i q)) [
                | inl e ↦
                    let P : ℕ → ℕ → Type 0 = λ j r. new.words j k ≡ true → marks.pending (slot_at board j r) (letter_of board dictionary j k r) ≡ false in
                    absurd (both_ways (marks.pending (slot_at board j r) b) (here_too P i q j r position here e (is.struck k) h) waits)
                | inr n ↦ or_right (new.letters (cell_at board j r) b) (new.pending (slot_at board j r) b) (is.pending_rest (slot_at board j r) b n ∙ waits)
              ]
        ]

    pub strike_sound : IsSound board dictionary marks → IsSound board dictionary new
    strike_sound sound = record {
      within = record {
        lights = λ j k h. sound.within.lights j k (in_old j k h);
        words = λ j k h. sound.within.words j k (in_old j k h);
        letters = λ x b h. sound.within.letters x b (sym (is.letters x b) ∙ h);
      };
      covers = strike_covers sound;
      spelled = strike_spelled sound;
      pending_gone = λ j r d here h. is.letters (cell_at board j r) d ∙ sound.pending_gone j r d here (was_pending (slot_at board j r) d h);
      pending_queued = λ j r d here h. is.queued j ∙ sound.pending_queued j r d here (was_pending (slot_at board j r) d h);
      hits = λ j r d here alive lt.
          let same = is.held (slot_at board j r) d in
          ap (puts board dictionary j r d) same ∙ sound.hits j r d here (sym (is.letters (cell_at board j r) d) ∙ alive) (omega (arith, same, lt));
      first = λ j r d k here alive lt never below stands has.
          let same = is.held (slot_at board j r) d in
          let most = sound.first j r d k here (sym (is.letters (cell_at board j r) d) ∙ alive) (omega (arith, same, lt)) (sym (is.restart (slot_at board j r) d) ∙ never) below (in_old j k stands) has in
          omega (arith, same, most);
    }

    pub strike_kept : IsKept board dictionary marks marks.queued → IsKept board dictionary new new.queued
    strike_kept kept = record {
      sound = strike_sound kept.sound;
      held = λ j r d here off alive.
          let n : j ≢ i = λ e. both_ways (marks.queued i) (ap marks.queued (sym e) ∙ sym (is.queued j) ∙ off) queued in
          let same = is.held (slot_at board j r) d in
          elim (kept.held j r d here (sym (is.queued j) ∙ off) (sym (is.letters (cell_at board j r) d) ∙ alive)) [
            | by_held lt stands ↦ by_held (omega (arith, same, lt)) (ap (new.words j) same ∙ is.rest j (marks.held (slot_at board j r) d) n ∙ stands)
            | by_word choice stands has ↦ by_word choice (is.rest j choice n ∙ stands) has
            | by_entered stands ↦ by_entered (is.rest j (known board dictionary j) n ∙ stands)
          ];
    }

    pub strike_paid : (measure : Measure) (spent spent' : ℕ) → IsSound board dictionary marks → IsPaid board dictionary measure marks spent → measure.member i ≡ true
        → spent' ≤ spent + chunks board dictionary i * sum_letters (λ b. cond (marks.pending (slot_at board i q) b) 1 0) → IsPaid board dictionary measure new spent'
    unfolding due_position due_letter
    strike_paid measure spent spent' sound paid in_set cost =
        let c = chunks board dictionary i in
        let each : (j r k : ℕ) → IsPositionIn board j r → k < 26 → due_letter board dictionary new j r (65 + k) ≤ due_letter board dictionary marks j r (65 + k) = λ j r k here lt.
        let s = slot_at board j r in
        due-fewer (puts board dictionary j r (65 + k)) (known board dictionary j) (marks.held s (65 + k)) (new.held s (65 + k)) (marks.letters (cell_at board j r) (65 + k)) (new.letters (cell_at board j r) (65 + k))
        (marks.restart s (65 + k)) (new.restart s (65 + k)) (marks.pending s (65 + k)) (new.pending s (65 + k))
        (is.held s (65 + k)) (is.letters (cell_at board j r) (65 + k)) (is.restart s (65 + k)) (was_pending s (65 + k)) in
        let here : (k : ℕ) → due_letter board dictionary new i q (65 + k) + chunks board dictionary i * cond (marks.pending (slot_at board i q) (65 + k)) 1 0 ≤ due_letter board dictionary marks i q (65 + k) = λ k.
        let s = slot_at board i q in
        due-cleared (puts board dictionary i q (65 + k)) (known board dictionary i) (marks.held s (65 + k)) (new.held s (65 + k)) (marks.letters (cell_at board i q) (65 + k)) (new.letters (cell_at board i q) (65 + k))
        (marks.restart s (65 + k)) (new.restart s (65 + k)) (marks.pending s (65 + k)) (new.pending s (65 + k))
        (is.held s (65 + k)) (is.letters (cell_at board i q) (65 + k)) (is.restart s (65 + k)) (is.cleared (65 + k)) (sound.pending_gone i q (65 + k) position) in
        let gone = sum_letters (λ b. cond (marks.pending (slot_at board i q) b) 1 0) in
        let falls : due_position board dictionary new i q + chunks board dictionary i * sum_letters (λ b. cond (marks.pending (slot_at board i q) b) 1 0) ≤ due_position board dictionary marks i q =
        omega (
          arith,
          sum_to-add (λ k. due_letter board dictionary new i q (65 + k)) (λ k. c * cond (marks.pending (slot_at board i q) (65 + k)) 1 0) 26,
          sum_to-times c (λ k. cond (marks.pending (slot_at board i q) (65 + k)) 1 0) 26,
          sum_to-le (λ k. due_letter board dictionary new i q (65 + k) + c * cond (marks.pending (slot_at board i q) (65 + k)) 1 0) (λ k. due_letter board dictionary marks i q (65 + k)) 26 (λ k lt. here k),
        ) in
        record {
          closed = paid.closed;
          within = omega (arith, paid.within, cost, due-falls board dictionary measure.member marks new each i q (c * gone) position in_set falls);
          queued = λ j lt h. paid.queued j lt (sym (is.queued j) ∙ h);
          fewer = λ x b h. paid.fewer x b (sym (is.letters x b) ∙ h);
        }

  -- ---- a letter gets another support, or is removed

  pub same_stays : (marks new : Marks) → ((j k : ℕ) → new.words j k ≡ marks.words j k) → ((s d : ℕ) → new.held s d ≡ marks.held s d) → (j r d : ℕ) → IsHeld board dictionary marks j r d → IsHeld board dictionary new j r d
  same_stays marks new words_same held_same j r d held =
      let same = held_same (slot_at board j r) d in
      elim held [
        | by_held lt stands ↦ by_held (omega (arith, same, lt)) (ap (new.words j) same ∙ words_same j (marks.held (slot_at board j r) d) ∙ stands)
        | by_word choice stands has ↦ by_word choice (words_same j choice ∙ stands) has
        | by_entered stands ↦ by_entered (words_same j (known board dictionary j) ∙ stands)
      ]

  module _ (marks new : Marks) (i q b : ℕ) (position : IsPositionIn board i q) (letter : IsLetter b) where
    -- whether it is this letter at this slot
    data ThisLetter (s d : ℕ) : Type 0 where
      this : (s ≡ slot_at board i q) × (d ≡ b) → ThisLetter s d
      another : ((s ≡ slot_at board i q) × (d ≡ b) → ⊥) → ThisLetter s d

    letter_cases : (s d : ℕ) → ThisLetter s d
    letter_cases s d =
        elim (cases_eq s (slot_at board i q)) [
          | inl e ↦ elim (cases_eq d b) [ inl f ↦ this (e, f) | inr n ↦ another (λ both. n both.1) ]
          | inr n ↦ another (λ both. n both.0)
        ]

    at_this : (P : ℕ → ℕ → ℕ → Type 0) (j r d : ℕ) → IsPositionIn board j r → (slot_at board j r ≡ slot_at board i q) × (d ≡ b) → P i q b → P j r d
    at_this P j r d here e h = here_too (λ j r. P j r d) i q j r position here e.0 (subst (P i q) (sym e.1) h)

    alive_letter : IsSound board dictionary marks → (y d : ℕ) → marks.letters y d ≡ true → IsLetter d
    alive_letter sound y d h = may_letter board y d (sound.within.letters y d h)

    module _ (word : ℕ) (hung : IsHung board dictionary marks new i q b word) where
      pub hung_held : IsHeld board dictionary new i q b
      hung_held = by_held (omega (arith, hung.held_here, hung.within)) (ap (new.words i) hung.held_here ∙ hung.words i word ∙ hung.stands)

      pub hung_stays : (j r d : ℕ) → IsPositionIn board j r → IsLetter d → IsHeld board dictionary marks j r d → IsHeld board dictionary new j r d
      hung_stays j r d here is_letter held =
          elim (letter_cases (slot_at board j r) d) [
            | this e ↦ at_this (λ j r d. IsHeld board dictionary new j r d) j r d here e hung_held
            | another n ↦
                let same = hung.held_rest (slot_at board j r) d is_letter n in
                elim held [
                  | by_held lt stands ↦ by_held (omega (arith, same, lt)) (ap (new.words j) same ∙ hung.words j (marks.held (slot_at board j r) d) ∙ stands)
                  | by_word choice stands has ↦ by_word choice (hung.words j choice ∙ stands) has
                  | by_entered stands ↦ by_entered (hung.words j (known board dictionary j) ∙ stands)
                ]
          ]

    module _ (word from : ℕ) (is : IsMoved board dictionary marks new i q b word from) where
      moves_hits : IsSound board dictionary marks → (j r d : ℕ) → IsPositionIn board j r → new.letters (cell_at board j r) d ≡ true → new.held (slot_at board j r) d < known board dictionary j
          → puts board dictionary j r d (new.held (slot_at board j r) d) ≡ true
      moves_hits sound j r d here alive lt =
          elim (letter_cases (slot_at board j r) d) [
            | this e ↦ at_this (λ j r d. puts board dictionary j r d (new.held (slot_at board j r) d) ≡ true) j r d here e (ap (puts board dictionary i q b) is.hung.held_here ∙ is.has)
            | another n ↦
                let same = is.hung.held_rest (slot_at board j r) d (alive_letter sound (cell_at board j r) d (sym (is.letters (cell_at board j r) d) ∙ alive)) n in
                ap (puts board dictionary j r d) same ∙ sound.hits j r d here (sym (is.letters (cell_at board j r) d) ∙ alive) (omega (arith, same, lt))
          ]

      moves_first : IsSound board dictionary marks → (j r d k : ℕ) → IsPositionIn board j r → new.letters (cell_at board j r) d ≡ true → new.held (slot_at board j r) d < known board dictionary j
          → new.restart (slot_at board j r) d ≡ false → k < known board dictionary j → new.words j k ≡ true → puts board dictionary j r d k ≡ true → new.held (slot_at board j r) d ≤ k
      moves_first sound j r d k here alive lt never below stands has =
          elim (letter_cases (slot_at board j r) d) [
            | this e ↦
                at_this (λ j r d. new.words j k ≡ true → puts board dictionary j r d k ≡ true → new.held (slot_at board j r) d ≤ k) j r d here e
                (λ stands has. elim (cases_lt k word) [
                  | inl before ↦ absurd (is.none_before k before (sym (is.hung.words i k) ∙ stands) has)
                  | inr from ↦ omega (arith, is.hung.held_here, from)
                ]) stands has
            | another n ↦
                let same = is.hung.held_rest (slot_at board j r) d (alive_letter sound (cell_at board j r) d (sym (is.letters (cell_at board j r) d) ∙ alive)) n in
                let most = sound.first j r d k here (sym (is.letters (cell_at board j r) d) ∙ alive) (omega (arith, same, lt)) (sym (is.restart_rest (slot_at board j r) d n) ∙ never) below (sym (is.hung.words j k) ∙ stands) has in
                omega (arith, same, most)
          ]

      pub moves_sound : IsSound board dictionary marks → IsSound board dictionary new
      moves_sound sound = record {
        within = record {
          lights = λ j k h. sound.within.lights j k (sym (is.hung.words j k) ∙ h);
          words = λ j k h. sound.within.words j k (sym (is.hung.words j k) ∙ h);
          letters = λ x d h. sound.within.letters x d (sym (is.letters x d) ∙ h);
        };
        covers = λ family supported. record {
          words = λ j k in_board base member. is.hung.words j k ∙ (sound.covers family supported).words j k in_board base member;
          letters = λ x d h. is.letters x d ∙ (sound.covers family supported).letters x d h;
        };
        spelled = λ j r k here h.
            ap (λ t. t || new.pending (slot_at board j r) (letter_of board dictionary j k r)) (is.letters (cell_at board j r) (letter_of board dictionary j k r))
            ∙ ap (λ t. marks.letters (cell_at board j r) (letter_of board dictionary j k r) || t) (is.pending (slot_at board j r) (letter_of board dictionary j k r))
            ∙ sound.spelled j r k here (sym (is.hung.words j k) ∙ h);
        pending_gone = λ j r d here h. is.letters (cell_at board j r) d ∙ sound.pending_gone j r d here (sym (is.pending (slot_at board j r) d) ∙ h);
        pending_queued = λ j r d here h. is.queued j ∙ sound.pending_queued j r d here (sym (is.pending (slot_at board j r) d) ∙ h);
        hits = moves_hits sound;
        first = moves_first sound;
      }

      pub moves_paid : (measure : Measure) (spent spent' : ℕ) → IsSound board dictionary marks → IsPaid board dictionary measure marks spent → measure.member i ≡ true
          → spent' - spent + from ≤ word / 64 + 1 → IsPaid board dictionary measure new spent'
      unfolding due_letter
      moves_paid measure spent spent' sound paid in_set cost =
          let t = spent' - spent in
          let s = slot_at board i q in
          let x = cell_at board i q in
          let h = marks.held s b in
          let later : marks.held (slot_at board i q) b < known board dictionary i → marks.restart (slot_at board i q) b ≡ false → (puts board dictionary i q b (marks.held (slot_at board i q) b) ≡ true) × (marks.held (slot_at board i q) b < word) = λ lt never.
          let most = sound.first i q b word position is.stood lt never is.hung.within is.hung.stands is.has in
          let differs : h ≢ word = λ e. both_ways (marks.words i h) (is.lost lt) (ap (marks.words i) e ∙ is.hung.stands) in
          (sound.hits i q b position is.stood lt, omega (arith, most, differs)) in
          let falls : due_letter board dictionary new i q b + (spent' - spent) ≤ due_letter board dictionary marks i q b =
          omega (
            arith,
            ap (λ w. due_of (puts board dictionary i q b) (known board dictionary i) (new.letters x b) w (new.restart s b) (new.pending s b)) is.hung.held_here,
            due-moves (puts board dictionary i q b) (known board dictionary i) h word from t (marks.letters x b) (new.letters x b) (marks.restart s b) (new.restart s b) (marks.pending s b) (new.pending s b)
                is.stood (is.letters x b ∙ is.stood) is.restart_here is.hung.within is.from_is later cost,
          ) in
          let each : (j r k : ℕ) → IsPositionIn board j r → k < 26 → due_letter board dictionary new j r (65 + k) ≤ due_letter board dictionary marks j r (65 + k) = λ j r k here lt.
          elim (letter_cases (slot_at board j r) (65 + k)) [
            | this e ↦ at_this (λ j r d. due_letter board dictionary new j r d ≤ due_letter board dictionary marks j r d) j r (65 + k) here e (omega (arith, falls))
            | another n ↦
                let same = due-same (puts board dictionary j r (65 + k)) (known board dictionary j) (marks.held (slot_at board j r) (65 + k)) (new.held (slot_at board j r) (65 + k)) (marks.letters (cell_at board j r) (65 + k)) (new.letters (cell_at board j r) (65 + k))
                (marks.restart (slot_at board j r) (65 + k)) (new.restart (slot_at board j r) (65 + k)) (marks.pending (slot_at board j r) (65 + k)) (new.pending (slot_at board j r) (65 + k))
                (is.hung.held_rest (slot_at board j r) (65 + k) (omega arith, omega arith) n) (is.letters (cell_at board j r) (65 + k)) (is.restart_rest (slot_at board j r) (65 + k) n) (is.pending (slot_at board j r) (65 + k)) in
                omega (arith, same)
          ] in
          let number : 65 + (b - 65) ≡ b = omega (arith, letter.0) in
          let falls_at : due_letter board dictionary new i q (65 + (b - 65)) + (spent' - spent) ≤ due_letter board dictionary marks i q (65 + (b - 65)) =
          subst (λ d. due_letter board dictionary new i q d + (spent' - spent) ≤ due_letter board dictionary marks i q d) (sym number) falls in
          record {
            closed = paid.closed;
            within =
                omega (
                  arith,
                  paid.within,
                  due-falls board dictionary measure.member marks new each i q t position in_set (position-falls board dictionary measure.member marks new each i q (b - 65) t position (omega (arith, letter.1)) falls_at),
                );
            queued = λ j lt h. paid.queued j lt (sym (is.queued j) ∙ h);
            fewer = λ x d h. paid.fewer x d (sym (is.letters x d) ∙ h);
          }

    module _ (from : ℕ) (is : IsDropped board dictionary marks new i q b from) where
      fewer_letters : (y d : ℕ) → new.letters y d ≡ true → marks.letters y d ≡ true
      fewer_letters y d h = (and_parts (marks.letters y d) (not (eqb y (cell_at board i q) && eqb d b)) (sym (is.drops.letters y d) ∙ h)).0

      gone_letters : (y d : ℕ) → marks.letters y d ≡ false → new.letters y d ≡ false
      gone_letters y d h = is.drops.letters y d ∙ ap (λ t. t && not (eqb y (cell_at board i q) && eqb d b)) h

      gone_here : (y d : ℕ) → y ≡ cell_at board i q → d ≡ b → new.letters y d ≡ false
      gone_here y d e f =
          is.drops.letters y d
          ∙ and_right (marks.letters y d) (not (eqb y (cell_at board i q) && eqb d b)) (not_from_true (eqb y (cell_at board i q) && eqb d b) (and_from (eqb y (cell_at board i q)) (eqb d b) (eq-eqb y (cell_at board i q) e) (eq-eqb d b f)))

      kept_letters : (y d : ℕ) → ((y ≡ cell_at board i q) × (d ≡ b) → ⊥) → marks.letters y d ≡ true → new.letters y d ≡ true
      kept_letters y d n h =
          is.drops.letters y d
          ∙ and_from (marks.letters y d) (not (eqb y (cell_at board i q) && eqb d b)) h
          (not_from_false (eqb y (cell_at board i q) && eqb d b) (false_from_ne_true (eqb y (cell_at board i q) && eqb d b) (λ both.
          let parts = and_parts (eqb y (cell_at board i q)) (eqb d b) both in
          n (eqb-true y (cell_at board i q) parts.0, eqb-true d b parts.1))))

      -- whether it is this letter at this cell
      data ThisCell (y d : ℕ) : Type 0 where
        this_cell : y ≡ cell_at board i q → d ≡ b → ThisCell y d
        another_cell : ((y ≡ cell_at board i q) × (d ≡ b) → ⊥) → ThisCell y d

      cell_cases : (y d : ℕ) → ThisCell y d
      cell_cases y d =
          elim (cases_eq y (cell_at board i q)) [
            | inl e ↦ elim (cases_eq d b) [ inl f ↦ this_cell e f | inr n ↦ another_cell (λ both. n both.1) ]
            | inr n ↦ another_cell (λ both. n both.0)
          ]

      -- no supported family has the letter
      none_has : IsSound board dictionary marks → (family : Family) → IsSupported board dictionary family → IsTrue (family.letters (cell_at board i q) b) → ⊥
      none_has sound family supported has =
          let found = supported.letters_have_words (cell_at board i q) b has i q position.0 position.1 refl in
          let numbered = number_of_base board dictionary (light_at board i) found.0 (rw (← base_words_here board dictionary i position.0) (supported.words_are_base i found.0 found.1)) in
          let k = numbered.0 in
          let stands = (sound.covers family supported).words i k position.0 numbered.1 (rw numbered.2 found.1) in
          is.no_word k stands (eq-eqb (letter_of board dictionary i k q) b (ap (λ word. get_or word q 0) numbered.2 ∙ found.2))

      drops_covers : IsSound board dictionary marks → (family : Family) → IsSupported board dictionary family → Covers board dictionary new.words new.letters family
      drops_covers sound family supported = record {
        words = λ j k in_board base member. is.words j k ∙ (sound.covers family supported).words j k in_board base member;
        letters = λ y d h.
            elim (cell_cases y d) [
              | this_cell e f ↦ absurd (none_has sound family supported (subst (λ n. IsTrue (family.letters (cell_at board i q) n)) f (subst (λ n. IsTrue (family.letters n d)) e h)))
              | another_cell n ↦ kept_letters y d n ((sound.covers family supported).letters y d h)
            ];
      }

      drops_spelled : IsSound board dictionary marks → (j r k : ℕ) → IsPositionIn board j r → new.words j k ≡ true
          → (new.letters (cell_at board j r) (letter_of board dictionary j k r) || new.pending (slot_at board j r) (letter_of board dictionary j k r)) ≡ true
      drops_spelled sound j r k here h =
          let y = cell_at board j r in
          let s = slot_at board j r in
          let d = letter_of board dictionary j k r in
          let stood = sym (is.words j k) ∙ h in
          elim (or_cases (marks.letters y d) (marks.pending s d) (sound.spelled j r k here stood)) [
            | inl alive ↦
                elim (cell_cases y d) [
                  | this_cell e f ↦
                      elim (cases_eq j i) [
                        | inl same ↦
                            let slots : slot_at board j r ≡ slot_at board i q = ap (λ n. 2 * n + side_of (light_at board j)) e ∙ ap (λ n. 2 * cell_at board i q + side_of (light_at board n)) same in
                            absurd (here_too (λ j r. marks.words j k ≡ true → letter_of board dictionary j k r ≡ b → ⊥) i q j r position here slots (λ stands has. is.no_word k stands (eq-eqb (letter_of board dictionary i k q) b has)) stood f)
                        | inr n ↦ or_right (new.letters y d) (new.pending s d) (ap (new.pending s) f ∙ is.drops.crossing j r (record { position_there = here; apart = n; meets = e }))
                      ]
                  | another_cell n ↦ or_left (new.letters y d) (new.pending s d) (kept_letters y d n alive)
                ]
            | inr waits ↦ or_right (new.letters y d) (new.pending s d) (is.drops.pending_more s d waits)
          ]

      pub drops_sound : IsSound board dictionary marks → IsSound board dictionary new
      drops_sound sound = record {
        within = record {
          lights = λ j k h. sound.within.lights j k (sym (is.words j k) ∙ h);
          words = λ j k h. sound.within.words j k (sym (is.words j k) ∙ h);
          letters = λ x d h. sound.within.letters x d (fewer_letters x d h);
        };
        covers = drops_covers sound;
        spelled = drops_spelled sound;
        pending_gone = λ j r d here h.
            elim (is.drops.pending_new (slot_at board j r) d h) [
              | inl before ↦ gone_letters (cell_at board j r) d (sound.pending_gone j r d here before)
              | inr (f, (other, t, at, same, waits)) ↦
                  let e = apart other t j r at.position_there here same in
                  gone_here (cell_at board j r) d (sym (ap (λ n. cell_at board n t) e.0 ∙ ap (cell_at board j) e.1) ∙ at.meets) f
            ];
        pending_queued = λ j r d here h.
            elim (is.drops.pending_new (slot_at board j r) d h) [
              | inl before ↦ is.drops.queued_more j (sound.pending_queued j r d here before)
              | inr (f, (other, t, at, same, waits)) ↦ ap new.queued (sym (apart other t j r at.position_there here same).0) ∙ waits
            ];
        hits = λ j r d here alive lt.
            let same = is.held (slot_at board j r) d in
            ap (puts board dictionary j r d) same ∙ sound.hits j r d here (fewer_letters (cell_at board j r) d alive) (omega (arith, same, lt));
        first = λ j r d k here alive lt never below stands has.
            let same = is.held (slot_at board j r) d in
            let most = sound.first j r d k here (fewer_letters (cell_at board j r) d alive) (omega (arith, same, lt)) (sym (is.restart (slot_at board j r) d) ∙ never) below (sym (is.words j k) ∙ stands) has in
            omega (arith, same, most);
      }

      pub drops_paid : (measure : Measure) (spent spent' : ℕ) → IsSound board dictionary marks → IsPaid board dictionary measure marks spent → measure.member i ≡ true
          → spent' - spent ≤ chunks board dictionary i - from → IsPaid board dictionary measure new spent'
      unfolding due_letter
      drops_paid measure spent spent' sound paid in_set cost =
          let t = spent' - spent in
          let s = slot_at board i q in
          let x = cell_at board i q in
          let not_pending : new.pending (slot_at board i q) b ≡ false = false_from_ne_true (new.pending (slot_at board i q) b) (λ h.
          elim (is.drops.pending_new (slot_at board i q) b h) [
            | inl before ↦ both_ways (marks.letters (cell_at board i q) b) (sound.pending_gone i q b position before) is.stood
            | inr (f, (other, r, at, same, waits)) ↦ at.apart (apart other r i q at.position_there position same).0
          ]) in
          let falls : due_letter board dictionary new i q b + (spent' - spent) ≤ due_letter board dictionary marks i q b =
          due-nowhere (puts board dictionary i q b) (known board dictionary i) (marks.held s b) (new.held s b) from t (marks.letters x b) (new.letters x b) (marks.restart s b) (new.restart s b) (marks.pending s b) (new.pending s b)
          is.stood (gone_here x b refl refl) not_pending is.from_is cost in
          let each : (j r k : ℕ) → IsPositionIn board j r → k < 26 → due_letter board dictionary new j r (65 + k) ≤ due_letter board dictionary marks j r (65 + k) = λ j r k here lt.
          let d = 65 + k in
          let y = cell_at board j r in
          let u = slot_at board j r in
          elim (cases_Bool (marks.letters y d)) [
            | inl stood ↦
                elim (cell_cases y d) [
                  | this_cell e f ↦ due-dies (puts board dictionary j r d) (known board dictionary j) (marks.held u d) (new.held u d) (marks.letters y d) (new.letters y d) (marks.restart u d) (new.restart u d) (marks.pending u d) (new.pending u d) stood (gone_here y d e f)
                  | another_cell n ↦ omega (arith, due-alike (puts board dictionary j r d) (known board dictionary j) (marks.held u d) (new.held u d) (marks.letters y d) (new.letters y d) (marks.restart u d) (new.restart u d) (marks.pending u d) (new.pending u d) (is.held u d) stood (kept_letters y d n stood) (is.restart u d))
                ]
            | inr gone ↦
                due-fewer (puts board dictionary j r d) (known board dictionary j) (marks.held u d) (new.held u d) (marks.letters y d) (new.letters y d) (marks.restart u d) (new.restart u d) (marks.pending u d) (new.pending u d)
                (is.held u d) (gone_letters y d gone ∙ sym gone) (is.restart u d) (λ h.
                elim (is.drops.pending_new u d h) [
                  | inl before ↦ before
                  | inr (f, (other, r', at, same, waits)) ↦
                      let e = apart other r' j r at.position_there here same in
                      let meets : cell_at board j r ≡ cell_at board i q = sym (ap (λ n. cell_at board n r') e.0 ∙ ap (cell_at board j) e.1) ∙ at.meets in
                      absurd (both_ways (marks.letters y d) gone (ap (λ n. marks.letters n d) meets ∙ ap (marks.letters (cell_at board i q)) f ∙ is.stood))
                ])
          ] in
          let number : 65 + (b - 65) ≡ b = omega (arith, letter.0) in
          let falls_at : due_letter board dictionary new i q (65 + (b - 65)) + (spent' - spent) ≤ due_letter board dictionary marks i q (65 + (b - 65)) =
          subst (λ d. due_letter board dictionary new i q d + (spent' - spent) ≤ due_letter board dictionary marks i q d) (sym number) falls in
          record {
            closed = paid.closed;
            within =
                omega (
                  arith,
                  paid.within,
                  due-falls board dictionary measure.member marks new each i q t position in_set (position-falls board dictionary measure.member marks new each i q (b - 65) t position (omega (arith, letter.1)) falls_at),
                );
            queued = λ j lt h.
                elim (is.drops.queued_new j h) [
                  | inl before ↦ paid.queued j lt before
                  | inr (r, at) ↦
                      paid.closed i q j r b position at.position_there at.meets (paid.fewer x b is.stood)
                      (λ feasible. both_ways (new.letters x b) (gone_here x b refl refl)
                      (∥∥₁_elim feasible (Bool-set _ _) (λ f. (drops_covers sound f.0 f.1).letters x b f.2)))
                      in_set
                ];
            fewer = λ y d h. paid.fewer y d (fewer_letters y d h);
          }
