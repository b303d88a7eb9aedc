-- A settled net that was adapted to the lights after an edit is ready for stripping, except at the
-- seeds.
use Rattle.std.proofs.Common.{◌≡◌, ℕ, ◌+◌, ◌*◌, ◌<◌, ◌≤◌, Bool, true, false, length, eqb, sym, ◌∙◌, ap, subst, inl, inr, arith}
use Rattle.std.specs.Prelude.{slice_index, Option, Some, unwrap_or}
use Rattle.std.proofs.lemmas.Bool.{cases_Bool, both_ways, or_cases}
use Rattle.xw_words.specs.Dictionary.{Dictionary, IsDictionary}
use Rattle.xw_letters.specs.Letter.{is_capital}
use Rattle.xw_feas.specs.Board.{Board}
use Rattle.xw_feas.specs.WellFormed.{IsLaidOut}
use Rattle.xw_net.specs.Revival.{IsMatching}
use Rattle.xw_net.specs.Marks.{Marks, IsPositionIn, cell_at, slot_at, side_of, letter_of, known, IsSettledNet}
use Rattle.xw_net.specs.Marks.IsHeld.{by_held, by_word, by_entered}
use Rattle.xw_net.specs.Brought.{IsBegun, IsReadyBut, IsCarried}
use Rattle.xw_net.proofs.Revivals.RevivalCovers.{was-gives, was-from}
use Rattle.xw_net.proofs.BaseRows.BaseLetters.{base_letter_may}
use Rattle.xw_net.proofs.Nets.FreshNets.{may_capital}

one_number : (a b : ℕ) → Some a ≡ Some b → a ≡ b
one_number a b h = ap (λ o. unwrap_or o a) h

module _ (before after : Board) (old new : Dictionary) (same : ℕ → Option ℕ) (settled start : Marks) (seed : ℕ → Bool)
    (laid_out : IsLaidOut after) (are_words : IsDictionary new) (matching : IsMatching before after same) (net : IsSettledNet before old settled)
    (begun : IsBegun before after old new same settled.words settled.letters start.words start.letters seed)
    (carried : IsCarried before after old new same settled start seed) where
  -- the position in the matched light
  record IsMatched (light position other : ℕ) : Type 0 where
    pub here : IsPositionIn before other position
    pub cell : cell_at before other position ≡ cell_at after light position
    pub slot : slot_at before other position ≡ slot_at after light position

  match_position : (light position other : ℕ) → IsPositionIn after light position → same light ≡ Some other → IsMatched light position other
  match_position light position other here at =
      let cells = matching.cells light other here.0 at in
      record {
        here = (matching.lights light other here.0 at, subst (λ cs. position < length cs) cells here.1);
        cell = ap (λ cs. slice_index cs position) (sym cells);
        slot = ap (λ cs. 2 * slice_index cs position + side_of cs) (sym cells);
      }

  -- each word was there before, with the same letters
  word_stood : (light other choice : ℕ) → light < length after.lights → seed light ≡ false → same light ≡ Some other → start.words light choice ≡ true → settled.words other choice ≡ true
  word_stood light other choice in_board no_seed at stands =
      let found = was-gives before after old new same settled.words light choice ((begun.words_kept light choice in_board no_seed).0 stands).1 in
      subst (λ o. settled.words o choice ≡ true) (one_number found.0 other (sym found.1 ∙ at)) found.2

  -- each letter was there before
  letter_stood : (light position letter : ℕ) → IsPositionIn after light position → seed light ≡ false → start.letters (cell_at after light position) letter ≡ true → settled.letters (cell_at after light position) letter ≡ true
  letter_stood light position letter here no_seed stands = elim (cases_Bool (settled.letters (cell_at after light position) letter)) [
    | inl stood ↦ stood
    | inr came ↦ absurd (both_ways (seed light) no_seed (begun.seeds light position letter here stands (λ h. both_ways (settled.letters (cell_at after light position) letter) came h)))
  ]

  same_letter : (light other choice position : ℕ) → light < length after.lights → seed light ≡ false → same light ≡ Some other → settled.words other choice ≡ true → letter_of before old other choice position ≡ letter_of after new light choice position
  same_letter light other choice position in_board no_seed at stood = ap (λ w. slice_index w position) (carried.choices light other choice in_board no_seed at stood)

  -- a word of a light that is not queued stays
  word_stays : (light other choice : ℕ) → light < length after.lights → seed light ≡ false → same light ≡ Some other → start.queued light ≡ false → settled.words other choice ≡ true → start.words light choice ≡ true
  word_stays light other choice in_board no_seed at calm stood =
      let had = was-from before after old new same settled.words light choice other at stood (carried.choices light other choice in_board no_seed at stood) in
      (begun.words_kept light choice in_board no_seed).1 (carried.calm light choice in_board no_seed calm had, had)

  capital : (cell letter : ℕ) → start.letters cell letter ≡ true → is_capital letter ≡ true
  capital cell letter stands = may_capital after cell letter (carried.letters cell letter stands)

  pub carried_ready : IsReadyBut after new start seed
  carried_ready = record {
    lights = carried.lights;
    words = λ light choice no_seed stands. ((begun.words_kept light choice (carried.lights light choice stands) no_seed).0 stands).0;
    letters = carried.letters;
    spelled = λ light position choice here no_seed stands.
        let other = (carried.matched light here.0 no_seed).0 in
        let at = (carried.matched light here.0 no_seed).1 in
        let there = match_position light position other here at in
        let stood = word_stood light other choice here.0 no_seed at stands in
        let base = ((begun.words_kept light choice here.0 no_seed).0 stands).0 in
        let may = base_letter_may after new laid_out are_words light choice position here.1 base in
        let had : settled.letters (cell_at before other position) (letter_of before old other choice position) ≡ true =
        elim (or_cases (settled.letters (cell_at before other position) (letter_of before old other choice position)) (settled.pending (slot_at before other position) (letter_of before old other choice position)) (net.ready.sound.spelled other position choice there.here stood)) [
          | inl is ↦ is
          | inr pends ↦ absurd (both_ways (settled.pending (slot_at before other position) (letter_of before old other choice position)) (net.none_pending other position (letter_of before old other choice position) there.here) pends)
        ] in
        let had_here : settled.letters (cell_at after light position) (letter_of after new light choice position) ≡ true =
        subst (λ l. settled.letters (cell_at after light position) l ≡ true) (same_letter light other choice position here.0 no_seed at stood)
        (subst (λ c. settled.letters c (letter_of before old other choice position) ≡ true) there.cell had) in
        begun.letters_kept (cell_at after light position) (letter_of after new light choice position) may had_here;
    pending = carried.pending;
    hits = carried.hits;
    first = λ light position letter choice here no_seed stands below restarts lt had puts_it.
        let other = (carried.matched light here.0 no_seed).0 in
        let at = (carried.matched light here.0 no_seed).1 in
        let there = match_position light position other here at in
        let is_known = carried.as_many light other here.0 no_seed at in
        let is_held : settled.held (slot_at before other position) letter ≡ start.held (slot_at after light position) letter = ap (λ s. settled.held s letter) there.slot ∙ sym (carried.held light position letter here (capital (cell_at after light position) letter stands) no_seed) in
        let stood : settled.letters (cell_at before other position) letter ≡ true = ap (λ c. settled.letters c letter) there.cell ∙ letter_stood light position letter here no_seed stands in
        let calm : settled.restart (slot_at before other position) letter ≡ false = ap (λ s. settled.restart s letter) there.slot ∙ sym (carried.restart light position letter here no_seed) ∙ restarts in
        subst (λ n. n ≤ choice) is_held
        (net.ready.sound.first other position letter choice there.here stood (omega (arith, is_held, is_known, below)) calm (omega (arith, is_known, lt))
        (word_stood light other choice here.0 no_seed at had) (ap (λ l. eqb l letter) (same_letter light other choice position here.0 no_seed at (word_stood light other choice here.0 no_seed at had)) ∙ puts_it));
    held = λ light position letter here no_seed calm stands.
        let other = (carried.matched light here.0 no_seed).0 in
        let at = (carried.matched light here.0 no_seed).1 in
        let there = match_position light position other here at in
        let is_known = carried.as_many light other here.0 no_seed at in
        let is_held : settled.held (slot_at before other position) letter ≡ start.held (slot_at after light position) letter = ap (λ s. settled.held s letter) there.slot ∙ sym (carried.held light position letter here (capital (cell_at after light position) letter stands) no_seed) in
        let stood : settled.letters (cell_at before other position) letter ≡ true = ap (λ c. settled.letters c letter) there.cell ∙ letter_stood light position letter here no_seed stands in
        elim (net.ready.held other position letter there.here (net.none_queued other there.here.0) stood) [
          | by_held below had ↦ by_held (omega (arith, is_held, is_known, below)) (subst (λ n. start.words light n ≡ true) is_held (word_stays light other (settled.held (slot_at before other position) letter) here.0 no_seed at calm had))
          | by_word choice had puts_it ↦ by_word choice (word_stays light other choice here.0 no_seed at calm had) (ap (λ l. eqb l letter) (sym (same_letter light other choice position here.0 no_seed at had)) ∙ puts_it)
          | by_entered had ↦ by_entered (subst (λ n. start.words light n ≡ true) (sym is_known) (word_stays light other (known before old other) here.0 no_seed at calm had))
        ];
  }
