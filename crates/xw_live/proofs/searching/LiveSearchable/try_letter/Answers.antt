use Rattle.std.proofs.Common.{◌≡◌, List, length, sym, ap, ◌∙◌, subst}
use Rattle.std.specs.Prelude.{Ok, IfOk, IfSome, ◌<◌}
use Rattle.xw_grid.specs.declared.lights.Light.{Light}
use Rattle.xw_words.specs.Dictionary.{Dictionary, known_words}
use Rattle.xw_feas.specs.Board.{Board, board_of}
use Rattle.xw_feas.specs.EngineState.{state_of as position_state_of}
use Rattle.xw_feas.specs.State.{State, after, letter_set}
use Rattle.xw_feas.specs.Trying.{MayTryLetter, IsTried, levels_after}
use Rattle.xw_net.specs.Entered.{IsTriedOn}
use Rattle.xw_net.specs.Seen.{AreSeen}
use Rattle.xw_feas.proofs.TryingLemmas.{tried_takes}
use Rattle.xw_net.proofs.Levels.RememberedWords.{seen_moved}
use Rattle.xw_live.specs.Levels.{SameCells, states_before}
use Rattle.xw_live.specs.Live.{state_of}
use Rattle.xw_live.proofs.Outcomes.{IsOutcome, kept_then, levels_then, cells_then, tried_then, states_then}
use Rattle.xw_live.proofs.Placements.{last_in, last_moved}
use Rattle.xw_live.proofs.TriedPlacements.{tried_letter, tried_inside, same_but_entries}
use Rattle.xw_live.proofs.searching.LiveSearchable.try_letter.Goals as goal

pub enter-requires : goal.enter-requires
enter-requires c =
    let s : state_of c.keep_level.new.self ≡ state_of c.args.self.now = λ i. record { grid = c.in_ok-keep_level.ensures.grid i; words = c.in_ok-keep_level.ensures.words i } in
    tried_takes (state_of c.keep_level.new.self) c.args.cell c.args.letter c.keep_level.new.self.position.formed.grid (subst (λ (state : State). MayTryLetter state c.args.cell c.args.letter) (sym s) c.requires)

pub try_level-requires-clause-last : goal.try_level-requires-clause-last
try_level-requires-clause-last c =
    let old = c.args.self.now in
    let live = c.keep_level.new.self in
    let was = state_of live in
    let there = position_state_of c.enter.new.self in
    let s : state_of c.keep_level.new.self ≡ state_of c.args.self.now = λ i. record { grid = c.in_ok-keep_level.ensures.grid i; words = c.in_ok-keep_level.ensures.words i } in
    let may = subst (λ (state : State). MayTryLetter state c.args.cell c.args.letter) (sym s) c.requires in
    let shape = c.enter.ensures.shape in
    let made : after (state_of c.keep_level.new.self) (letter_set c.args.cell c.args.letter) ≡ Ok (position_state_of c.enter.new.self) = c.enter.ensures.made in
    let is_tried : IsTriedOn (position_state_of c.enter.new.self) c.enter.new.self.notes.written c.keep_level.new.self.net =
    tried_letter was there c.args.cell c.args.letter c.enter.new.self.notes.written live.net live.position.formed c.enter.new.self.formed may made c.enter.ensures.told.cells shape c.enter.ensures.words live.kept.settled in
    let last = last_moved (state_of old) was old.net live.net old.levels.made.items live.levels.made.items (sym s) (sym c.in_ok-keep_level.ensures.net) c.in_ok-keep_level.ensures.last in
    let alike = same_but_entries was there (letter_set c.args.cell c.args.letter) live.position.formed c.enter.new.self.formed made shape in
    let cells : SameCells (board_of c.enter.new.self.grid) (board_of c.keep_level.new.self.position.grid) = (ap (λ (b : Board). b.lights) alike, ap (λ (b : Board). b.open_cells) alike) in
    (old.levels.made.items, last_in was there live.levels old.levels.made.items live.net live.levels_kept last shape cells c.enter.ensures.words)

pub try_level-requires-clause-inside : goal.try_level-requires-clause-inside
try_level-requires-clause-inside c =
    let old = c.args.self.now in
    let live = c.keep_level.new.self in
    let was = state_of live in
    let there = position_state_of c.enter.new.self in
    let s : state_of c.keep_level.new.self ≡ state_of c.args.self.now = λ i. record { grid = c.in_ok-keep_level.ensures.grid i; words = c.in_ok-keep_level.ensures.words i } in
    let may = subst (λ (state : State). MayTryLetter state c.args.cell c.args.letter) (sym s) c.requires in
    let shape = c.enter.ensures.shape in
    let made : after (state_of c.keep_level.new.self) (letter_set c.args.cell c.args.letter) ≡ Ok (position_state_of c.enter.new.self) = c.enter.ensures.made in
    let is_tried : IsTriedOn (position_state_of c.enter.new.self) c.enter.new.self.notes.written c.keep_level.new.self.net =
    tried_letter was there c.args.cell c.args.letter c.enter.new.self.notes.written live.net live.position.formed c.enter.new.self.formed may made c.enter.ensures.told.cells shape c.enter.ensures.words live.kept.settled in
    tried_inside was there (letter_set c.args.cell c.args.letter) c.enter.new.self.notes.written live.position.formed made c.enter.ensures.told.cells

pub try_level-requires-clause-tried : goal.try_level-requires-clause-tried
try_level-requires-clause-tried c =
    let old = c.args.self.now in
    let live = c.keep_level.new.self in
    let was = state_of live in
    let there = position_state_of c.enter.new.self in
    let s : state_of c.keep_level.new.self ≡ state_of c.args.self.now = λ i. record { grid = c.in_ok-keep_level.ensures.grid i; words = c.in_ok-keep_level.ensures.words i } in
    let may = subst (λ (state : State). MayTryLetter state c.args.cell c.args.letter) (sym s) c.requires in
    let shape = c.enter.ensures.shape in
    let made : after (state_of c.keep_level.new.self) (letter_set c.args.cell c.args.letter) ≡ Ok (position_state_of c.enter.new.self) = c.enter.ensures.made in
    let is_tried : IsTriedOn (position_state_of c.enter.new.self) c.enter.new.self.notes.written c.keep_level.new.self.net =
    tried_letter was there c.args.cell c.args.letter c.enter.new.self.notes.written live.net live.position.formed c.enter.new.self.formed may made c.enter.ensures.told.cells shape c.enter.ensures.words live.kept.settled in
    is_tried

pub try_level-requires-clause-seen : goal.try_level-requires-clause-seen
try_level-requires-clause-seen c =
    let old = c.args.self.now in
    let live = c.keep_level.new.self in
    let was = state_of live in
    let there = position_state_of c.enter.new.self in
    let s : state_of c.keep_level.new.self ≡ state_of c.args.self.now = λ i. record { grid = c.in_ok-keep_level.ensures.grid i; words = c.in_ok-keep_level.ensures.words i } in
    let may = subst (λ (state : State). MayTryLetter state c.args.cell c.args.letter) (sym s) c.requires in
    let shape = c.enter.ensures.shape in
    let made : after (state_of c.keep_level.new.self) (letter_set c.args.cell c.args.letter) ≡ Ok (position_state_of c.enter.new.self) = c.enter.ensures.made in
    let is_tried : IsTriedOn (position_state_of c.enter.new.self) c.enter.new.self.notes.written c.keep_level.new.self.net =
    tried_letter was there c.args.cell c.args.letter c.enter.new.self.notes.written live.net live.position.formed c.enter.new.self.formed may made c.enter.ensures.told.cells shape c.enter.ensures.words live.kept.settled in
    let alike = same_but_entries was there (letter_set c.args.cell c.args.letter) live.position.formed c.enter.new.self.formed made shape in
    let seen = c.in_ok-keep_level.ensures.seen in
    subst (λ (words : Dictionary). AreSeen (board_of c.enter.new.self.grid) (known_words words) c.keep_level.new.self.levels.trail.seen.items) (sym c.enter.ensures.words)
    (seen_moved (board_of live.position.grid) (board_of c.enter.new.self.grid) (known_words live.position.bank.words) live.levels.trail.seen.items (ap (λ (b : Board). b.lights) alike) (ap (λ (b : Board). b.open_cells) alike) seen)

pub invariant_of-self : goal.invariant_of-self
invariant_of-self c =
    let old = c.args.self.now in
    let live = c.keep_level.new.self in
    let was = state_of live in
    let there = position_state_of c.enter.new.self in
    let s : state_of c.keep_level.new.self ≡ state_of c.args.self.now = λ i. record { grid = c.in_ok-keep_level.ensures.grid i; words = c.in_ok-keep_level.ensures.words i } in
    let may = subst (λ (state : State). MayTryLetter state c.args.cell c.args.letter) (sym s) c.requires in
    let shape = c.enter.ensures.shape in
    let made : after (state_of c.keep_level.new.self) (letter_set c.args.cell c.args.letter) ≡ Ok (position_state_of c.enter.new.self) = c.enter.ensures.made in
    let is_tried : IsTriedOn (position_state_of c.enter.new.self) c.enter.new.self.notes.written c.keep_level.new.self.net =
    tried_letter was there c.args.cell c.args.letter c.enter.new.self.notes.written live.net live.position.formed c.enter.new.self.formed may made c.enter.ensures.told.cells shape c.enter.ensures.words live.kept.settled in
    let last = last_moved (state_of old) was old.net live.net old.levels.made.items live.levels.made.items (sym s) (sym c.in_ok-keep_level.ensures.net) c.in_ok-keep_level.ensures.last in
    let e = c.try_level.ensures in
    let outcome : IsOutcome c.keep_level.new.self.net c.keep_level.new.self.levels (position_state_of c.enter.new.self) (position_state_of c.try_level.new.position) c.try_level.new.net c.try_level.new.levels c.args.watched.now c.try_level.result =
    record { words = e.words; seen = e.seen; none_waits = e.none_waits; grid = e.grid; settled = e.settled; alive = e.alive; made = e.made; back = e.back; dead = e.dead; watched = e.watched; within = subst (λ (lights : List Light). IfOk c.try_level.result (λ dead. IfSome dead (λ light. light < length lights))) c.enter.new.self.light_list e.within; left = e.left; spare = e.spare } in
    record {
      kept = kept_then was live.net live.levels old.levels.made.items live.kept live.levels_kept last there shape (same_but_entries was there (letter_set c.args.cell c.args.letter) live.position.formed c.enter.new.self.formed made shape) c.enter.ensures.words (position_state_of c.try_level.new.position) c.try_level.new.net c.try_level.new.levels c.args.watched.now c.try_level.result outcome;
      levels_kept = levels_then was live.net live.levels old.levels.made.items live.kept live.levels_kept last there shape (same_but_entries was there (letter_set c.args.cell c.args.letter) live.position.formed c.enter.new.self.formed made shape) c.enter.ensures.words (position_state_of c.try_level.new.position) c.try_level.new.net c.try_level.new.levels c.args.watched.now c.try_level.result outcome;
      same_cells = live.same_cells ∙ cells_then was live.net live.levels old.levels.made.items live.kept live.levels_kept last there shape (same_but_entries was there (letter_set c.args.cell c.args.letter) live.position.formed c.enter.new.self.formed made shape) c.enter.ensures.words (position_state_of c.try_level.new.position) c.try_level.new.net c.try_level.new.levels c.args.watched.now c.try_level.result outcome;
    }

pub invariant_of-self-2 : goal.invariant_of-self-2
invariant_of-self-2 c =
    let old = c.args.self.now in
    let live = c.keep_level.new.self in
    let was = state_of live in
    let there = position_state_of c.enter.new.self in
    let s : state_of c.keep_level.new.self ≡ state_of c.args.self.now = λ i. record { grid = c.in_ok-keep_level.ensures.grid i; words = c.in_ok-keep_level.ensures.words i } in
    let may = subst (λ (state : State). MayTryLetter state c.args.cell c.args.letter) (sym s) c.requires in
    let shape = c.enter.ensures.shape in
    let made : after (state_of c.keep_level.new.self) (letter_set c.args.cell c.args.letter) ≡ Ok (position_state_of c.enter.new.self) = c.enter.ensures.made in
    let is_tried : IsTriedOn (position_state_of c.enter.new.self) c.enter.new.self.notes.written c.keep_level.new.self.net =
    tried_letter was there c.args.cell c.args.letter c.enter.new.self.notes.written live.net live.position.formed c.enter.new.self.formed may made c.enter.ensures.told.cells shape c.enter.ensures.words live.kept.settled in
    let last = last_moved (state_of old) was old.net live.net old.levels.made.items live.levels.made.items (sym s) (sym c.in_ok-keep_level.ensures.net) c.in_ok-keep_level.ensures.last in
    let e = c.try_level.ensures in
    let outcome : IsOutcome c.keep_level.new.self.net c.keep_level.new.self.levels (position_state_of c.enter.new.self) (position_state_of c.try_level.new.position) c.try_level.new.net c.try_level.new.levels c.args.watched.now c.try_level.result =
    record { words = e.words; seen = e.seen; none_waits = e.none_waits; grid = e.grid; settled = e.settled; alive = e.alive; made = e.made; back = e.back; dead = e.dead; watched = e.watched; within = subst (λ (lights : List Light). IfOk c.try_level.result (λ dead. IfSome dead (λ light. light < length lights))) c.enter.new.self.light_list e.within; left = e.left; spare = e.spare } in
    record {
      kept = kept_then was live.net live.levels old.levels.made.items live.kept live.levels_kept last there shape (same_but_entries was there (letter_set c.args.cell c.args.letter) live.position.formed c.enter.new.self.formed made shape) c.enter.ensures.words (position_state_of c.try_level.new.position) c.try_level.new.net c.try_level.new.levels c.args.watched.now c.try_level.result outcome;
      levels_kept = levels_then was live.net live.levels old.levels.made.items live.kept live.levels_kept last there shape (same_but_entries was there (letter_set c.args.cell c.args.letter) live.position.formed c.enter.new.self.formed made shape) c.enter.ensures.words (position_state_of c.try_level.new.position) c.try_level.new.net c.try_level.new.levels c.args.watched.now c.try_level.result outcome;
      same_cells = live.same_cells ∙ cells_then was live.net live.levels old.levels.made.items live.kept live.levels_kept last there shape (same_but_entries was there (letter_set c.args.cell c.args.letter) live.position.formed c.enter.new.self.formed made shape) c.enter.ensures.words (position_state_of c.try_level.new.position) c.try_level.new.net c.try_level.new.levels c.args.watched.now c.try_level.result outcome;
    }

pub returns-clause-tried : goal.returns-clause-tried
returns-clause-tried c =
    let old = c.args.self.now in
    let live = c.keep_level.new.self in
    let was = state_of live in
    let there = position_state_of c.enter.new.self in
    let s : state_of c.keep_level.new.self ≡ state_of c.args.self.now = λ i. record { grid = c.in_ok-keep_level.ensures.grid i; words = c.in_ok-keep_level.ensures.words i } in
    let may = subst (λ (state : State). MayTryLetter state c.args.cell c.args.letter) (sym s) c.requires in
    let shape = c.enter.ensures.shape in
    let made : after (state_of c.keep_level.new.self) (letter_set c.args.cell c.args.letter) ≡ Ok (position_state_of c.enter.new.self) = c.enter.ensures.made in
    let is_tried : IsTriedOn (position_state_of c.enter.new.self) c.enter.new.self.notes.written c.keep_level.new.self.net =
    tried_letter was there c.args.cell c.args.letter c.enter.new.self.notes.written live.net live.position.formed c.enter.new.self.formed may made c.enter.ensures.told.cells shape c.enter.ensures.words live.kept.settled in
    let last = last_moved (state_of old) was old.net live.net old.levels.made.items live.levels.made.items (sym s) (sym c.in_ok-keep_level.ensures.net) c.in_ok-keep_level.ensures.last in
    let e = c.try_level.ensures in
    let outcome : IsOutcome c.keep_level.new.self.net c.keep_level.new.self.levels (position_state_of c.enter.new.self) (position_state_of c.try_level.new.position) c.try_level.new.net c.try_level.new.levels c.args.watched.now c.try_level.result =
    record { words = e.words; seen = e.seen; none_waits = e.none_waits; grid = e.grid; settled = e.settled; alive = e.alive; made = e.made; back = e.back; dead = e.dead; watched = e.watched; within = subst (λ (lights : List Light). IfOk c.try_level.result (λ dead. IfSome dead (λ light. light < length lights))) c.enter.new.self.light_list e.within; left = e.left; spare = e.spare } in
    let done = tried_then was live.net live.levels old.levels.made.items live.kept live.levels_kept last there shape (same_but_entries was there (letter_set c.args.cell c.args.letter) live.position.formed c.enter.new.self.formed made shape) c.enter.ensures.words (position_state_of c.try_level.new.position) c.try_level.new.net c.try_level.new.levels c.args.watched.now c.try_level.result outcome (letter_set c.args.cell c.args.letter) made c.in_ok-tried.tried c.in_ok-tried.was in
    subst (λ (state : State). IsTried state (letter_set c.args.cell c.args.letter) c.args.watched.now c.in_ok-tried.tried (position_state_of c.try_level.new.position)) s done

pub returns-clause-levels : goal.returns-clause-levels
returns-clause-levels c =
    let old = c.args.self.now in
    let live = c.keep_level.new.self in
    let was = state_of live in
    let there = position_state_of c.enter.new.self in
    let s : state_of c.keep_level.new.self ≡ state_of c.args.self.now = λ i. record { grid = c.in_ok-keep_level.ensures.grid i; words = c.in_ok-keep_level.ensures.words i } in
    let may = subst (λ (state : State). MayTryLetter state c.args.cell c.args.letter) (sym s) c.requires in
    let shape = c.enter.ensures.shape in
    let made : after (state_of c.keep_level.new.self) (letter_set c.args.cell c.args.letter) ≡ Ok (position_state_of c.enter.new.self) = c.enter.ensures.made in
    let is_tried : IsTriedOn (position_state_of c.enter.new.self) c.enter.new.self.notes.written c.keep_level.new.self.net =
    tried_letter was there c.args.cell c.args.letter c.enter.new.self.notes.written live.net live.position.formed c.enter.new.self.formed may made c.enter.ensures.told.cells shape c.enter.ensures.words live.kept.settled in
    let last = last_moved (state_of old) was old.net live.net old.levels.made.items live.levels.made.items (sym s) (sym c.in_ok-keep_level.ensures.net) c.in_ok-keep_level.ensures.last in
    let e = c.try_level.ensures in
    let outcome : IsOutcome c.keep_level.new.self.net c.keep_level.new.self.levels (position_state_of c.enter.new.self) (position_state_of c.try_level.new.position) c.try_level.new.net c.try_level.new.levels c.args.watched.now c.try_level.result =
    record { words = e.words; seen = e.seen; none_waits = e.none_waits; grid = e.grid; settled = e.settled; alive = e.alive; made = e.made; back = e.back; dead = e.dead; watched = e.watched; within = subst (λ (lights : List Light). IfOk c.try_level.result (λ dead. IfSome dead (λ light. light < length lights))) c.enter.new.self.light_list e.within; left = e.left; spare = e.spare } in
    states_then was live.net live.levels old.levels.made.items live.kept live.levels_kept last there shape (same_but_entries was there (letter_set c.args.cell c.args.letter) live.position.formed c.enter.new.self.formed made shape) c.enter.ensures.words (position_state_of c.try_level.new.position) c.try_level.new.net c.try_level.new.levels c.args.watched.now c.try_level.result outcome ∙ (λ i. levels_after (states_before (s i).words old.levels.made.items) (s i) c.try_level.result) ∙ ap (levels_after (states_before old.position.bank.words old.levels.made.items) (state_of c.args.self.now)) c.in_ok-tried.was
