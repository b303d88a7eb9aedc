-- The state at the start of an update.
use Rattle.std.proofs.Common.{◌≡◌, ℕ, ◌+◌, ◌-◌, ◌*◌, ◌<◌, Bool, true, false, List, length, Some, None, refl, sym, ◌∙◌, ap, subst, inl, inr, arith}
use Rattle.std.specs.Prelude.{Option, Contains, slice_index, slice_get}
use Rattle.std.proofs.lemmas.Bool.{cases_Bool, both_ways}
use Rattle.std.proofs.lemmas.Option.{get_or_from_slice_get}
use Rattle.xw_words.specs.Dictionary.{known_words}
use Rattle.xw_grid.specs.declared.cell.Cell.{Cell}
use Rattle.xw_grid.specs.Grid.{is_inside, index_of}
use Rattle.xw_grid.specs.declared.lights.Light.{Light}
use Rattle.xw_grid.specs.Light.{lights_of, no_light, step}
use Rattle.xw_feas.proofs.BoardLemmas.{length-lights}
use Rattle.xw_feas.proofs.FormedLemmas.{light_in, length-light_at, index_is}
use Rattle.xw_net.proofs.Edits.UntouchedLights.{freed_letter_within}
use Rattle.xw_feas.specs.Board.{board_of, light_at}
use Rattle.xw_feas.specs.Feasible.{may_stand}
use Rattle.xw_feas.specs.Flags.{set_has}
use Rattle.xw_feas.specs.State.{State, Action}
use Rattle.xw_net.specs.declared.net.Net.{Net}
use Rattle.xw_net.specs.Change.{Fields, IsChange}
use Rattle.xw_net.specs.Revival.{IsMatching, same_light, StandsOn}
use Rattle.xw_net.specs.Region.{IsRegion}
use Rattle.xw_net.specs.Marks.{IsPositionIn, cell_at}
use Rattle.xw_net.specs.Nets.{marks_of, word_stands, letter_stands, restart_in, queued_in}
use Rattle.xw_net.specs.Filled.{IsFilled}
use Rattle.xw_net.specs.Renumber.{same_before}
use Rattle.xw_net.specs.Spread.{HasAll}
use Rattle.xw_net.specs.Worklist.{is_marked, is_waiting}
use Rattle.xw_net.specs.Brought.{IsBegun}
use Rattle.xw_net.specs.Marks.{IsHolding}
use Rattle.xw_net.specs.Base.{base_bits}
use Rattle.xw_net.specs.Begin.{may_have, IsStarted, IsPrepared}
use Rattle.xw_net.specs.Inner.Forget.{lost_from, Forgets}
use Rattle.xw_net.specs.Gone.{IsFreed}
use Rattle.xw_net.specs.Opened.{arrays_of, IsTouched, MayGain, IsOpening, IsMoved, IsOpened}
use Rattle.xw_net.specs.Opened.IsTouched.{by_light, by_cell, by_word, by_grade}
use Rattle.xw_net.specs.Opened.MayGain.{if_touched, if_queued, if_freed}
use Rattle.xw_net.proofs.Edits.SameLights.{same_is_matching, same_is_whole}
use Rattle.xw_net.proofs.Revivals.CarriedIsReady.{carried_ready}
use Rattle.xw_net.proofs.Revivals.StartIsRevival.{started_begun, started_carried}
use Rattle.xw_net.proofs.Edits.ChangedLights.{changed_started, new_within, edited_within, long_within, turned_within}
use Rattle.xw_net.proofs.Edits.FilledCells.{filled_was_open}
use Rattle.xw_net.proofs.Revivals.FilledCell.{FillsOne}
use Rattle.xw_net.proofs.Revivals.OpenedSupports.{opened_held, opened_pending, opened_hits}
use Rattle.xw_net.proofs.Revivals.OpenedRows.{listed_inside, opened_prepared, new_queued, new_seeds, turned_seeds, opened_base, opened_lights, opened_words_on, opened_words_off, opened_words_calm, opened_has_not, opened_freed}

module _ {cell : Option ℕ} (before now : State) (action : Action) (change : Fields) (is : IsChange before now action change) (settled net opened : Net)
    (filled : IsFilled (board_of before.grid) before.words settled) (holding : IsHolding (board_of before.grid) before.words (marks_of settled)) (moved : IsMoved before now settled net)
    (opening : IsOpening now.grid (board_of now.grid) (lights_of now.grid) (known_words now.words) change cell (arrays_of net) (arrays_of opened))
    (forgets : Forgets (board_of now.grid) (λ light. lost_from change.word (same_before change.before (lights_of now.grid) light) (length (light_at (board_of now.grid) light)) (length (known_words now.words (length (light_at (board_of now.grid) light)))))
    net.held.items opened.held.items net.pending.items opened.pending.items)
    (entered_kept : opened.entered.items ≡ net.entered.items) (restart_kept : opened.restart.items ≡ net.restart.items)
    (inside : (listed : Cell × Option ℕ) → Contains change.cells listed → is_inside now.grid listed.0 ≡ true)
    (one : (filled : ℕ) → cell ≡ Some filled → FillsOne now.grid change filled) where
  matching : IsMatching (board_of before.grid) (board_of now.grid) (same_light before.grid now.grid)
  matching = same_is_matching before.grid now.grid is.width

  inside_before : (listed : Cell × Option ℕ) → Contains change.cells listed → is_inside before.grid listed.0 ≡ true
  inside_before = listed_inside before now action change is settled net opened filled moved opening entered_kept inside one

  prepared : IsPrepared (board_of now.grid) (known_words now.words) change.word net.rows.items opened.rows.items net.base.items opened.base.items (is_marked opened.queue.marks) (is_marked opened.chain.marks)
  prepared = opened_prepared before now action change is settled net opened filled moved opening entered_kept inside one

  has_not : (light : ℕ) → light < length (board_of now.grid).lights → is_marked opened.chain.marks light ≡ false
      → may_have change.word (length (light_at (board_of now.grid) light)) (base_bits (board_of now.grid) (light_at (board_of now.grid) light) (known_words now.words (length (light_at (board_of now.grid) light)))) ≡ false
  has_not = opened_has_not before now action change is settled net opened filled moved opening entered_kept inside one

  started : IsStarted (board_of before.grid) (board_of now.grid) before.words now.words (same_light before.grid now.grid) (marks_of settled) (marks_of opened) (is_marked opened.chain.marks)
  unfolding letter_stands restart_in queued_in is_marked
  started =
      changed_started before now action change is (marks_of settled) (marks_of opened) (is_marked opened.chain.marks) (is_waiting opened.chain.lights) filled.exact inside_before
      opening.edited
      (new_queued before now action change is settled net opened filled moved opening entered_kept inside one)
      (new_seeds before now action change is settled net opened filled moved opening entered_kept inside one)
      prepared.calm prepared.seeds
      (turned_seeds before now action change is settled net opened filled moved opening entered_kept inside one)
      (subst (λ ls. Rattle.xw_net.specs.Spread.IsSpread (board_of now.grid) (set_has ls) (set_has opened.letters.items) (is_marked opened.chain.marks) (is_waiting opened.chain.lights) Rattle.xw_net.specs.Spread.no_positions) moved.letters opening.spread)
      (λ listed has fill. filled_was_open before now action change is listed has (inside_before listed has) (inside listed has) fill)
      (opened_lights before now action change is settled net opened filled moved opening entered_kept inside one)
      (opened_words_on before now action change is settled net opened filled moved opening entered_kept inside one)
      (opened_words_off before now action change is settled net opened filled moved opening entered_kept inside one)
      (opened_words_calm before now action change is settled net opened filled moved opening entered_kept inside one)
      (opened_freed before now action change is settled net opened filled moved opening entered_kept inside one)
      (opened_held before now action change is settled net opened filled.settled holding moved opening forgets has_not)
      (λ slot letter. ap (λ rs. set_has rs slot letter) (restart_kept ∙ moved.restart))
      (opened_pending before now action change is settled net opened filled.settled holding moved opening forgets has_not)
      (opened_hits before now action change is settled net opened filled.settled holding moved opening forgets has_not)

  begun : IsBegun (board_of before.grid) (board_of now.grid) before.words now.words (same_light before.grid now.grid) (word_stands settled) (letter_stands settled) (word_stands opened) (letter_stands opened) (is_marked opened.chain.marks)
  begun = started_begun (board_of before.grid) (board_of now.grid) before.words now.words (same_light before.grid now.grid) (marks_of settled) (marks_of opened) (is_marked opened.chain.marks) matching filled.exact started

  -- ---- the region

  none_queued : (member : ℕ → Bool) (light : ℕ) → is_marked net.queue.marks light ≡ true → member light ≡ true
  none_queued member light on = absurd (both_ways (is_marked net.queue.marks light) (moved.is_queued light) on)

  none_marked : (member : ℕ → Bool) (light : ℕ) → is_marked net.chain.marks light ≡ true → member light ≡ true
  none_marked member light on = absurd (both_ways (is_marked net.chain.marks light) (moved.is_marked light) on)

  -- each light through a freed cell where a letter is missing is in the region
  freed_within : (member : List ℕ → Bool) → IsRegion before now action member → (cell light position : ℕ) → IsFreed now.grid change.before (lights_of now.grid) (length change.before) cell
      → ¬ HasAll (board_of now.grid) (set_has net.letters.items) cell → IsPositionIn (board_of now.grid) light position → cell_at (board_of now.grid) light position ≡ cell → member (light_at (board_of now.grid) light) ≡ true
  unfolding letter_stands
  freed_within member region cell light position freed lacks here at = elim (cases_Bool (member (light_at (board_of now.grid) light))) [
    | inl has ↦ has
    | inr off ↦ absurd (lacks (λ letter may. elim (cases_Bool (set_has net.letters.items cell letter)) [
      | inl stood ↦ stood
      | inr not_stood ↦ absurd (both_ways _ off (freed_letter_within before now action is.formed_before.grid is.made member region (word_stands settled) (letter_stands settled) filled.exact
          freed.other freed.among.position light position letter in_before gone below here.0 here.1 (at ∙ is_cell)
          (subst (λ p. may_stand (board_of now.grid) p letter ≡ true) is_cell may)
          (λ stands. both_ways _ not_stood (ap (λ ls. set_has ls cell letter) moved.letters ∙ ap (λ p. set_has settled.letters.items p letter) is_cell ∙ stands))))
    ]))
  ] where
    in_lights : freed.other < length (lights_of before.grid)
    in_lights = subst (λ ls. freed.other < length ls) is.lights freed.below

    in_before : freed.other < length (board_of before.grid).lights
    in_before = omega (arith, in_lights, length-lights before.grid)

    light_is : light_in before.grid freed.other ≡ freed.light
    light_is = get_or_from_slice_get (lights_of before.grid) freed.other freed.light no_light (sym (ap (λ ls. slice_get ls freed.other) is.lights) ∙ freed.gone.at)

    below : freed.among.position < length (light_at (board_of before.grid) freed.other)
    below = omega (arith, freed.among.below, length-light_at before.grid freed.other in_lights, ap (λ (l : Light). l.size) light_is)

    is_cell : cell ≡ slice_index (light_at (board_of before.grid) freed.other) freed.among.position
    is_cell =
        sym freed.among.along.is
        ∙ ap (λ (l : Light). index_of now.grid (step l.name.direction l.start freed.among.position)) (sym light_is)
        ∙ ap (λ w. ((step (light_in before.grid freed.other).name.direction (light_in before.grid freed.other).start freed.among.position).row - 1) * w + ((step (light_in before.grid freed.other).name.direction (light_in before.grid freed.other).start freed.among.position).col - 1)) is.width
        ∙ sym (index_is before.grid freed.other freed.among.position below)

    gone : ¬ StandsOn (board_of now.grid) (same_light before.grid now.grid) freed.other
    gone (light', in_after, at') =
        let found : same_light now.grid before.grid freed.other ≡ Some light' = same_is_whole now.grid before.grid (sym is.width) freed.other light' in_before in_after (sym (matching.cells light' freed.other in_after at')) in
        let never : None ≡ Some light' = sym freed.gone.none ∙ ap (λ ls. same_before (lights_of now.grid) ls freed.other) is.lights ∙ found in
        cc

  -- each light that the edit touches is in the region
  touched_within : (member : List ℕ → Bool) → IsRegion before now action member → (light : ℕ) → IsTouched now.grid (board_of now.grid) (lights_of now.grid) change light → member (light_at (board_of now.grid) light) ≡ true
  touched_within member region light (by_light at) = new_within before now action change is member region light (omega (arith, at.0, length-lights now.grid)) (sym (ap (λ ls. same_before ls (lights_of now.grid) light) is.lights) ∙ at.1)
  touched_within member region light (by_cell at) = edited_within before now action change is member region at.0 light at.2.0 at.1 at.2.1 at.2.2
  touched_within member region light (by_word at) = long_within before now action change is member region (length (light_at (board_of now.grid) light)) at.0 light at.1 at.2 refl
  touched_within member region light (by_grade at) = turned_within before now action change is member region light at.0 at.1

  -- so is each light that may gain words or letters
  gain_within : (member : List ℕ → Bool) → IsRegion before now action member → (light : ℕ) → MayGain now.grid (board_of now.grid) (lights_of now.grid) change net.letters.items net.queue light → member (light_at (board_of now.grid) light) ≡ true
  gain_within member region light (if_touched at) = touched_within member region light at
  gain_within member region light (if_queued on) = none_queued (λ l. member (light_at (board_of now.grid) l)) light on
  gain_within member region light (if_freed at) = freed_within member region at.0 light at.3.0 at.1 at.2 at.3.1 at.3.2

  pub opens : IsOpened before now action settled opened
  opens = record {
    is_base = opened_base before now action change is settled net opened filled moved opening entered_kept inside one;
    begun = begun;
    ready = carried_ready (board_of before.grid) (board_of now.grid) before.words now.words (same_light before.grid now.grid) (marks_of settled) (marks_of opened) (is_marked opened.chain.marks)
        is.formed_now.board is.formed_now.dictionary matching filled.settled begun
        (started_carried (board_of before.grid) (board_of now.grid) before.words now.words (same_light before.grid now.grid) (marks_of settled) (marks_of opened) (is_marked opened.chain.marks) matching filled.exact started);
    queued_within = λ member region.
        opening.queued_within (λ light. member (light_at (board_of now.grid) light)) (none_queued (λ light. member (light_at (board_of now.grid) light))) (touched_within member region);
    within = λ member region.
        opening.within (λ light. member (light_at (board_of now.grid) light)) (none_marked (λ light. member (light_at (board_of now.grid) light))) (gain_within member region);
  }
