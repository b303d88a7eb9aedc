-- A settled net that got letters is ready for stripping.
use Rattle.std.proofs.Common.{◌≡◌, ℕ, ◌+◌, ◌-◌, ◌*◌, ◌<◌, Bool, true, false, not, ◌&&◌, List, [], ◌∷◌, ◌++◌, None, length, get_or, refl, sym, ap, ◌∙◌, inl, inr, arith}
use Rattle.std.specs.Prelude.{Option, is_some}
use Rattle.std.proofs.lemmas.Bool.{cases_Bool, both_ways, not-true, not_from_false, false≢true}
use Rattle.std.proofs.lemmas.List.{get_or_append_left, get_or_default, length-map}
use Rattle.std.proofs.lemmas.Simd.{get_or-zip2}
use Rattle.xw_letters.specs.Letter.{is_capital}
use Rattle.xw_grid.specs.declared.cell.Cell.{Cell}
use Rattle.xw_grid.specs.Grid.{Grid}
use Rattle.xw_words.specs.Dictionary.{Dictionary, known_words}
use Rattle.xw_feas.specs.Board.{Board, entry, is_open, allows, light_at, is_wholly_entered}
use Rattle.xw_feas.specs.Feasible.{may_stand}
use Rattle.xw_feas.specs.Choices.{is_base_at}
use Rattle.xw_feas.specs.Flags.{set_has}
use Rattle.xw_net.specs.Base.{base_bits, is_base_word}
use Rattle.xw_net.specs.Brought.{IsBase}
use Rattle.xw_net.specs.Entered.{IsEnteredIn, IsEntered}
use Rattle.xw_net.specs.Filled.{IsUnstripped, IsFilled}
use Rattle.xw_net.specs.Marks.{known}
use Rattle.xw_net.specs.Nets.{marks_of, bits_for, word_stands, letter_stands, held_in, restart_in, pending_in, queued_in}
use Rattle.xw_net.specs.Spread.{bits_in}
use Rattle.xw_net.specs.Update.{IsSized, KeepsRoom}
use Rattle.xw_net.specs.Worklist.{is_marked}
use Rattle.xw_net.specs.declared.net.Net.{Net}
use Rattle.xw_net.proofs.BaseRows.NarrowedRows.{common_bits, narrowed_common}
use Rattle.xw_net.proofs.Edits.ChangedLights.{base_bits_same}
use Rattle.xw_net.proofs.Edits.ExactFamilies.{exact_may}
use Rattle.xw_net.proofs.Edits.KeptBaseWords.{HaveSameEntries}
use Rattle.xw_net.proofs.Levels.EnteredBoards.{with_entries, KeepsEntries}
use Rattle.xw_net.proofs.Levels.EnteredFamilies.{AreSpelled}
use Rattle.xw_net.proofs.Levels.EnteredLetters.{keeps_entries, are_spelled, was_row}
use Rattle.xw_net.proofs.Levels.EnteredMarks.{AreEntered, entered_ready, entered_holding}
use Rattle.xw_net.proofs.Lists.ListsOfLights.{marked_below}
use Rattle.xw_net.proofs.Revivals.StartIsRevival.{empty_not_whole}
use Rattle.xw_net.proofs.Stripping.WordsByNumber.{listed_is, entered_is, word_cases}
use Rattle.xw_net.proofs.Stripping.WordsByNumber.WordOf.{listed, spelled_one}

module _ (before : Board) (entries : List (Option ℕ)) (dictionary : Dictionary) (grid : Grid) (written : List (Cell × Option ℕ)) (old new : Net) (entered : IsEntered before dictionary grid written (with_entries before entries))
    (filled : IsFilled before dictionary old)
    (sized : IsSized (with_entries before entries) (known_words dictionary) new) (room : KeepsRoom old new) (is : IsEnteredIn grid (with_entries before entries) (known_words dictionary) written old new) where
  abbrev after : Board
  after = with_entries before entries

  kept : KeepsEntries before entries
  kept = keeps_entries before entries dictionary grid written entered

  full : AreSpelled before entries dictionary (word_stands old)
  full = are_spelled before entries dictionary grid written entered (word_stands old) (letter_stands old) filled.exact

  light_inside : (light : ℕ) → is_marked new.queue.marks light ≡ true → light < length before.lights
  light_inside light marked = omega (arith, marked_below new.queue.marks light marked, sized.shaped.queue)

  -- a light that is not queued passes through no new cell
  elsewhere : (light : ℕ) → light < length before.lights → is_marked new.queue.marks light ≡ false → HaveSameEntries before after (light_at before light)
  elsewhere light below none other listed_there = entered.others other (λ one. both_ways (is_marked new.queue.marks light) none
      (is.queue.all light (other, one, (listed_there.0, (below, listed_there.1), get_or_default (light_at before light) listed_there.0 0 other listed_there.1 ∙ listed_there.2))))

  unqueued : (light : ℕ) → is_marked old.queue.marks light ≡ false
  unfolding queued_in is_marked
  unqueued light = filled.quiet.queued light

  -- a queued light passes through a new cell, which was empty
  was_open : (light : ℕ) → is_marked new.queue.marks light ≡ true → is_wholly_entered before (light_at before light) ≡ false
  was_open light marked =
      not-true (is_wholly_entered before (light_at before light))
      (is.queue.only (λ other. not (is_wholly_entered before (light_at before other))) (λ other was. absurd (both_ways (is_marked old.queue.marks other) (unqueued other) was))
      (λ other through. not_from_false (is_wholly_entered before (light_at before other)) (empty_not_whole before (light_at before other) through.2.0 through.2.1.1 (ap (entry before) through.2.2 ∙ entered.empty through.0 through.1))) light marked)

  is_base : IsBase after dictionary new.base.items
  is_base light below = elim (cases_Bool (is_marked new.queue.marks light)) [
    | inl marked ↦
        let on = is.on light below marked in
        on.narrowed.base (λ cell found.
        let only = on.only cell found in
        was_row before entries dictionary grid written entered light cell (known_words dictionary) (bits_in old.base.items light) only.0 only.1 (filled.is_base light below))
    | inr none ↦ (is.off light none).base ∙ filled.is_base light below ∙ sym (base_bits_same before after (light_at before light) (known_words dictionary (length (light_at before light))) (elsewhere light below none))
  ]

  -- the words of a light that is not queued
  same_words : (light choice : ℕ) → is_marked new.queue.marks light ≡ false → word_stands new light choice ≡ word_stands old light choice
  unfolding word_stands
  same_words light choice none =
      let stays = is.off light none in
      ap (λ bits. get_or (bits ++ get_or new.entered.items light false ∷ []) choice false) stays.rows
      ∙ ap (λ flag. get_or (bits_in old.rows.items light ++ flag ∷ []) choice false) stays.flag

  -- the number of known words
  long_new : (light : ℕ) → light < length before.lights → length (bits_for new light) ≡ known before dictionary light
  long_new light below = sized.bits light below

  long_old : (light : ℕ) → light < length before.lights → length (bits_for old light) ≡ known before dictionary light
  long_old light below = filled.whole.bits light below

  abbrev base_of : ℕ → List Bool
  base_of light = base_bits after (light_at before light) (known_words dictionary (length (light_at before light)))

  -- the words of a queued light are those that are still base words
  narrowed_words : (light choice : ℕ) → is_marked new.queue.marks light ≡ true → choice < known before dictionary light → word_stands new light choice ≡ (word_stands old light choice && is_base_at after dictionary light choice)
  narrowed_words light choice marked below =
      let inside = light_inside light marked in
      let on = (is.on light inside marked).narrowed in
      let base : bits_in new.base.items light ≡ base_of light = is_base light inside in
      let size : length (base_of light) ≡ known before dictionary light = length-map (known_words dictionary (length (light_at before light))) (is_base_word after (light_at before light)) in
      let long : length (bits_in old.rows.items light) ≡ length (bits_in new.base.items light) = omega (arith, long_old light inside, size, ap length base) in
      let bits : bits_in new.rows.items light ≡ common_bits (bits_in old.rows.items light) (base_of light) =
      narrowed_common None (length (light_at before light)) (bits_in old.rows.items light) (bits_in new.base.items light) (bits_in new.rows.items light) long on.rows (λ index some. absurd (false≢true (ap (λ (o : Option (ℕ × ℕ)). is_some o) some)))
      ∙ ap (common_bits (bits_in old.rows.items light)) base in
      listed_is new light choice (omega (arith, below, long_new light inside))
      ∙ ap (λ b. get_or b choice false) bits
      ∙ get_or-zip2 (λ x y. x && y) (bits_in old.rows.items light) (base_of light) choice false false false (omega (arith, below, long_old light inside)) (omega (arith, below, size))
      ∙ ap (λ b. b && get_or (base_of light) choice false) (sym (listed_is old light choice (omega (arith, below, long_old light inside))))
      ∙ ap (λ b. word_stands old light choice && b) (sym (get_or_append_left (base_of light) (is_wholly_entered after (light_at before light) ∷ []) false choice (omega (arith, below, size))))

  letters_now : (other letter : ℕ) → letter_stands new other letter ≡ (letter_stands old other letter && may_stand after other letter)
  unfolding letter_stands
  letters_now other letter = elim (is.letters other) [
    | inl narrowed ↦ narrowed letter
    | inr same ↦
        same.1 letter
        ∙ stays (set_has old.letters.items other letter) (may_stand after other letter) (λ stood.
        ap (λ e. (is_open before other && is_capital letter) && allows e letter) (entered.others other same.0) ∙ exact_may before dictionary (word_stands old) (letter_stands old) filled.exact other letter stood)
  ] where
    stays : (a b : Bool) → (a ≡ true → b ≡ true) → a ≡ (a && b)
    stays true b yes_it_is = sym (yes_it_is refl)
    stays false b yes_it_is = refl

  are_entered : AreEntered before entries dictionary (marks_of old) (marks_of new)
  unfolding held_in restart_in pending_in queued_in is_marked
  are_entered = record {
    words_on = narrowed_words;
    entered_on = λ light marked. entered_is new light (known before dictionary light) (long_new light (light_inside light marked)) ∙ (is.on light (light_inside light marked) marked).narrowed.flag;
    words_off = same_words;
    lights = lights;
    numbers = λ light choice stands. elim (word_cases new light choice stands) [
      | listed lt bit ↦ omega (arith, lt, long_new light (lights light choice stands))
      | spelled_one last flag ↦ omega (arith, last, long_new light (lights light choice stands))
    ];
    entries_off = elsewhere;
    open_on = was_open;
    letters = letters_now;
    held = λ slot letter. ap (λ (n : Net). get_or n.held.items (26 * slot + (letter - 65)) 0) is.rest;
    restart = λ slot letter. ap (λ (n : Net). set_has n.restart.items slot letter) is.rest;
    pending = λ slot letter. ap (λ (n : Net). set_has n.pending.items slot letter) is.rest ∙ filled.pending slot letter;
  } where
    lights : (light choice : ℕ) → word_stands new light choice ≡ true → light < length before.lights
    lights light choice stands = elim (cases_Bool (is_marked new.queue.marks light)) [
      | inl marked ↦ light_inside light marked
      | inr none ↦ filled.settled.ready.sound.within.lights light choice (sym (same_words light choice none) ∙ stands)
    ]

  pub entered_unstripped : IsUnstripped after dictionary new
  unfolding pending_in
  entered_unstripped = record {
    whole = record {
      shaped = sized.shaped;
      chained = sized.chained;
      bits = sized.bits;
      base = sized.base;
      room = λ light below. omega (arith, filled.whole.room light below, room.rows light);
      base_room = λ light below. omega (arith, filled.whole.base_room light below, room.base light);
    };
    is_base = is_base;
    ready = entered_ready before entries kept dictionary (marks_of old) (marks_of new) filled.exact full are_entered filled.holding filled.settled.ready.sound;
    holding = entered_holding before entries kept dictionary (marks_of old) (marks_of new) filled.exact full are_entered filled.holding;
    pending = λ slot letter. ap (λ (n : Net). set_has n.pending.items slot letter) is.rest ∙ filled.pending slot letter;
    taken = ap (λ (n : Net). n.chain.lights) is.rest ∙ filled.quiet.taken;
    marked = λ light. ap (λ (n : Net). is_marked n.chain.marks light) is.rest ∙ filled.quiet.marked light;
  }
