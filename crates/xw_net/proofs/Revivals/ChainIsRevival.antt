-- Putting words and letters back along a chain is a revival, stays in the region, and leaves a net
-- that is ready for stripping.
use Rattle.std.proofs.Common.{◌≡◌, ℕ, ◌<◌, ◌≤◌, Bool, true, false, ◌&&◌, sym, ◌∙◌, ap, subst, inl, inr}
use Rattle.std.specs.Prelude.{IsTrue, List, slice_index, Option}
use Rattle.std.proofs.lemmas.Bool.{and_parts, cases_Bool, both_ways, or_left}
use Rattle.xw_letters.specs.Letter.{is_capital}
use Rattle.xw_words.specs.Dictionary.{Dictionary}
use Rattle.xw_feas.specs.Board.{Board, board_of, light_at, entry, is_open, allows}
use Rattle.xw_feas.specs.Feasible.{may_stand}
use Rattle.xw_feas.specs.Choices.{choice_at, is_base_at, CoversSupported, IsExact}
use Rattle.xw_feas.specs.State.{State, Action}
use Rattle.xw_feas.specs.WellFormed.{IsLaidOut}
use Rattle.xw_words.specs.Dictionary.{IsDictionary}
use Rattle.xw_net.specs.Revival.{IsMatching, IsRevived}
use Rattle.xw_net.specs.Region.{IsRegion}
use Rattle.xw_net.specs.Marks.{Marks, IsPositionIn, cell_at, slot_at, letter_of, known, puts, AreSlotsApart, IsSound, IsReady}
use Rattle.xw_net.specs.Marks.IsHeld.{by_held, by_word, by_entered}
use Rattle.xw_net.specs.Spread.{IsReachClosed}
use Rattle.xw_net.specs.Brought.{IsBrought, IsBegun, IsReadyBut}
use Rattle.xw_net.proofs.Revivals.RevivalCovers.{revival_covers}
use Rattle.xw_net.proofs.Costs.RegionIsClosed.{settled_stood, region_spreads}
use Rattle.xw_net.proofs.BaseRows.BaseLetters.{base_letter_may}

-- the seeds are on the chain
abbrev pub IsSeeded : (ℕ → Bool) → (ℕ → Bool) → Type 0
IsSeeded seed chain = (light : ℕ) → seed light ≡ true → chain light ≡ true

not_seed : (seed chain : ℕ → Bool) (light : ℕ) → IsSeeded seed chain → chain light ≡ false → seed light ≡ false
not_seed seed chain light seeded off = elim (cases_Bool (seed light)) [
  | inl on ↦ absurd (both_ways (chain light) off (seeded light on))
  | inr no_seed ↦ no_seed
]

-- ---- it is a revival

module _ (before after : Board) (old new : Dictionary) (same : ℕ → Option ℕ) (words letters : ℕ → ℕ → Bool) (start now : Marks) (seed chain : ℕ → Bool)
    (begun : IsBegun before after old new same words letters start.words start.letters seed) (seeded : IsSeeded seed chain) (brought : IsBrought after new start now chain) where
  on_chain : (light choice : ℕ) → chain light ≡ true → IsTrue (is_base_at after new light choice) → IsTrue (now.words light choice)
  on_chain light choice on base = brought.words_on light choice on ∙ base

  stays : (cell letter : ℕ) → IsTrue (may_stand after cell letter) → IsTrue (start.letters cell letter) → IsTrue (now.letters cell letter)
  stays cell letter may stood = brought.letters_stay cell letter may stood

  pub brought_is_revival : IsRevived before after old new same words letters now.words now.letters
  brought_is_revival = record {
    lights = λ light in_board. record {
      words_stay = λ choice base stood. elim (cases_Bool (chain light)) [
        | inl on ↦ on_chain light choice on base
        | inr off ↦ brought.words_off light choice off ∙ (begun.words_kept light choice in_board (not_seed seed chain light seeded off)).1 (base, stood)
      ];
      words_come = λ choice base none. elim (cases_Bool (chain light)) [
        | inl on ↦ on_chain light choice on base
        | inr off ↦ absurd (none (begun.kept light in_board (not_seed seed chain light seeded off) choice base))
      ];
      words_follow = λ choice k base below stands not_stood.
          let cell = slice_index (light_at after light) k in
          let letter = slice_index (choice_at after new light choice) k in
          elim (cases_Bool (start.letters cell letter)) [
            | inl at_first ↦ on_chain light choice (seeded light (begun.seeds light k letter (in_board, below) at_first not_stood)) base
            | inr later ↦ on_chain light choice (brought.letters_off light k letter (in_board, below) stands later) base
          ];
      letters_follow = λ choice k base below stands not_stood may. elim (cases_Bool (chain light)) [
        | inl on ↦ brought.letters_on light k choice (in_board, below) on base (slice_index (choice_at after new light choice) k) may
        | inr off ↦ absurd (not_stood ((begun.words_kept light choice in_board (not_seed seed chain light seeded off)).0 (sym (brought.words_off light choice off) ∙ stands)).1)
      ];
    };
    cells = record {
      letters_stay = λ cell letter may stood. stays cell letter may (begun.letters_kept cell letter may stood);
      letters_come = λ cell letter may might_not. stays cell letter may (begun.letters_come cell letter may might_not);
      letters_freed = λ other k letter in_board gone below may. stays (slice_index (light_at before other) k) letter may (begun.freed other k in_board gone below letter may);
    };
  }

  pub brought_covers : IsMatching before after same → IsExact before old words letters → CoversSupported after new now.words now.letters
  brought_covers matching exact = revival_covers before after old new same words letters now.words now.letters matching exact brought_is_revival

-- ---- the region

-- a region is closed in the way a chain needs: a cell where a letter comes back is not settled
pub region_reach_closed : (before after : State) (action : Action) (member : List ℕ → Bool) → IsRegion before after action member
    → (words letters : ℕ → ℕ → Bool) → IsExact (board_of before.grid) before.words words letters
    → (start : ℕ → ℕ → Bool) → ((cell letter : ℕ) → IsTrue (may_stand (board_of after.grid) cell letter) → IsTrue (letters cell letter) → IsTrue (start cell letter))
    → IsReachClosed (board_of after.grid) start (λ light. member (light_at (board_of after.grid) light))
region_reach_closed before after action member region words letters exact start kept light position other other_position here there meets lacks has =
    region_spreads before after action member region light position other other_position here.0 here.1 there.0 there.1 meets
    (λ settled. lacks (λ letter may. kept (cell_at (board_of after.grid) light position) letter may (settled_stood before after words letters exact (cell_at (board_of after.grid) light position) letter settled may)))
    has

-- ---- ready for stripping

module _ (board : Board) (dictionary : Dictionary) (laid_out : IsLaidOut board) (are_words : IsDictionary dictionary) (apart : AreSlotsApart board)
    (start now : Marks) (seed chain : ℕ → Bool) (seeded : IsSeeded seed chain)
    (was_ready : IsReadyBut board dictionary start seed) (brought : IsBrought board dictionary start now chain) where
  off_seed : (light : ℕ) → chain light ≡ false → seed light ≡ false
  off_seed light off = not_seed seed chain light seeded off

  base_now : (light choice : ℕ) → now.words light choice ≡ true → is_base_at board dictionary light choice ≡ true
  base_now light choice stands = elim (cases_Bool (chain light)) [
    | inl on ↦ sym (brought.words_on light choice on) ∙ stands
    | inr off ↦ was_ready.words light choice (off_seed light off) (sym (brought.words_off light choice off) ∙ stands)
  ]

  may_now : (cell letter : ℕ) → now.letters cell letter ≡ true → may_stand board cell letter ≡ true
  may_now cell letter stands = elim (brought.letters_from cell letter stands) [
    | inl stood ↦ was_ready.letters cell letter stood
    | inr may ↦ may
  ]

  capital_now : (cell letter : ℕ) → now.letters cell letter ≡ true → is_capital letter ≡ true
  capital_now cell letter stands =
      (and_parts (is_open board cell) (is_capital letter) (and_parts (is_open board cell && is_capital letter) (allows (entry board cell) letter) (may_now cell letter stands)).0).1

  -- at a light off the chain, each letter was there before
  stood_off : (light position letter : ℕ) → IsPositionIn board light position → chain light ≡ false → now.letters (cell_at board light position) letter ≡ true → start.letters (cell_at board light position) letter ≡ true
  stood_off light position letter here off stands = elim (cases_Bool (start.letters (cell_at board light position) letter)) [
    | inl stood ↦ stood
    | inr came ↦ absurd (both_ways (chain light) off (brought.letters_off light position letter here stands came))
  ]

  -- at a light off the chain, the slots are unchanged
  restart_off : (light position letter : ℕ) → IsPositionIn board light position → chain light ≡ false → now.restart (slot_at board light position) letter ≡ start.restart (slot_at board light position) letter
  restart_off light position letter here off =
      brought.restart_off (slot_at board light position) letter (λ other other_position there meets. ap chain (apart other other_position light position there here meets).0 ∙ off)

  sound : CoversSupported board dictionary now.words now.letters → IsSound board dictionary now
  sound covers = record {
    within = record {
      lights = λ light choice stands. elim (cases_Bool (chain light)) [
        | inl on ↦ brought.lights light on
        | inr off ↦ was_ready.lights light choice (sym (brought.words_off light choice off) ∙ stands)
      ];
      words = base_now;
      letters = may_now;
    };
    covers = covers;
    spelled = λ light position choice here stands.
        let letter = letter_of board dictionary light choice position in
        let cell = cell_at board light position in
        let may = base_letter_may board dictionary laid_out are_words light choice position here.1 (base_now light choice stands) in
        or_left (now.letters cell letter) (now.pending (slot_at board light position) letter)
        (elim (cases_Bool (chain light)) [
          | inl on ↦ brought.letters_on light position choice here on (base_now light choice stands) letter may
          | inr off ↦ brought.letters_stay cell letter may (was_ready.spelled light position choice here (off_seed light off) (sym (brought.words_off light choice off) ∙ stands))
        ]);
    pending_gone = λ light position letter here pends. absurd (none_pending light position letter here pends);
    pending_queued = λ light position letter here pends. absurd (none_pending light position letter here pends);
    hits = λ light position letter here stands below.
        let is = brought.held (slot_at board light position) letter in
        subst (λ n. puts board dictionary light position letter n ≡ true) (sym is)
        (was_ready.hits light position letter here (capital_now (cell_at board light position) letter stands) (subst (λ n. n < known board dictionary light) is below));
    first = λ light position letter choice here stands below restarts lt had puts_it.
        let is = brought.held (slot_at board light position) letter in
        elim (cases_Bool (chain light)) [
          | inl on ↦ absurd (both_ways (now.restart (slot_at board light position) letter) restarts (brought.restart_on light position letter here on (capital_now (cell_at board light position) letter stands)))
          | inr off ↦
              subst (λ n. n ≤ choice) (sym is)
              (was_ready.first light position letter choice here (off_seed light off) (stood_off light position letter here off stands)
              (subst (λ n. n < known board dictionary light) is below) (sym (restart_off light position letter here off) ∙ restarts) lt (sym (brought.words_off light choice off) ∙ had) puts_it)
        ];
  }
    where
      none_pending : (light position letter : ℕ) → IsPositionIn board light position → now.pending (slot_at board light position) letter ≡ true → ⊥
      none_pending light position letter here pends = both_ways (now.pending (slot_at board light position) letter) (brought.pending (slot_at board light position) letter ∙ was_ready.pending light position letter here) pends

  pub brought_ready : CoversSupported board dictionary now.words now.letters → IsReady board dictionary now
  brought_ready covers = record {
    sound = sound covers;
    held = λ light position letter here calm stands. elim (cases_Bool (chain light)) [
      | inl on ↦ absurd (both_ways (now.queued light) calm (brought.queued_on light on))
      | inr off ↦
          let is = brought.held (slot_at board light position) letter in
          elim (was_ready.held light position letter here (off_seed light off) (sym (brought.queued_off light off) ∙ calm) (stood_off light position letter here off stands)) [
            | by_held below had ↦ by_held (subst (λ n. n < known board dictionary light) (sym is) below) (brought.words_off light (now.held (slot_at board light position) letter) off ∙ ap (start.words light) is ∙ had)
            | by_word choice had puts_it ↦ by_word choice (brought.words_off light choice off ∙ had) puts_it
            | by_entered had ↦ by_entered (brought.words_off light (known board dictionary light) off ∙ had)
          ]
    ];
  }
