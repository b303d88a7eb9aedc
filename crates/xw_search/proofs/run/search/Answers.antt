use Rattle.std.proofs.Common.{◌∷◌, ◌++◌, [], length, refl, sym, ap, ◌∙◌, subst, arith}
use Rattle.std.proofs.lemmas.List.{length-append, nil_from_length}
use Rattle.xw_letters.proofs.LetterSetLemmas.{has-none}
use Rattle.xw_feas.specs.Board.{board_of}
use Rattle.xw_search.specs.Position.{position_of}
use Rattle.xw_search.specs.NamedFill.{flags, entry_in}
use Rattle.xw_search.specs.Progress.{entries_of, IsOpen, IsLetterEntered, IsTried}
use Rattle.xw_search.specs.Stack.{first_or}
use Rattle.xw_search.specs.declared.frame.Frame.{Frame}
use Rattle.xw_search.proofs.AllowanceLemmas.{counted-none, counted_letters, counted_some}
use Rattle.xw_search.proofs.StackLemmas.{stands_empty}
use Rattle.xw_search.proofs.Shaped.{shaped}
use Rattle.xw_search.proofs.StateLemmas.{DiffersInEntries-itself, DiffersInEntries-then}
use Rattle.xw_search.proofs.NamedFills.{open_is_fill}
use Rattle.xw_search.proofs.LetterSearch.{IsUnderway, may_try, underway_alive, underway_tried, underway_on, underway_at, underway_back, underway_end, target_open, open_there, targets_open, chosen_target, none_left}
use Rattle.xw_search.proofs.run.search.Goals as goal

pub next_cell-requires-clause-open : goal.next_cell-requires-clause-open
next_cell-requires-clause-open g c =
    let start = g.E.Feasible.state c.args.engine.now in
    targets_open (flags c.args.plan.now.named.items) start start c.args.plan.now.targets.items c.deref.result.now (DiffersInEntries-itself start) (shaped (board_of start.grid) (g.met.E.Feasible.well_formed c.args.engine.now).board) c.requires.plan.targets.sound c.deref.ensures.value

pub returns-in_default-clause-entries : goal.returns-in_default-clause-entries
returns-in_default-clause-entries g c = DiffersInEntries-itself (g.E.Feasible.state c.args.engine.now)

pub returns-in_default-clause-filled : goal.returns-in_default-clause-filled
returns-in_default-clause-filled g c is_filled =
    let start = g.E.Feasible.state c.args.engine.now in
    let named = flags c.args.plan.now.named.items in
    open_is_fill named (position_of start) (entries_of start) c.requires.open
    (none_left named (position_of start) c.args.plan.now.targets.items c.deref.result.now (entries_of start) c.requires.plan.targets.all c.deref.ensures.value c.in_default.ensures.none)

pub loop-letter-init : goal.loop-letter-init
loop-letter-init g c =
    let start = g.E.Feasible.state c.args.engine.now in
    let named = flags c.args.plan.now.named.items in
    let is = shaped (board_of start.grid) (g.met.E.Feasible.well_formed c.args.engine.now).board in
    let chosen = c.in-Some.ensures.some in
    let target = chosen_target named (position_of start) c.args.plan.now.targets.items c.deref.result.now c.in-Some.first c.requires.plan.targets.sound c.deref.ensures.value chosen.0 in
    record {
      stands = stands_empty IsLetterEntered c.args.stack.now.placements.items (g.E.Searchable.levels c.args.engine.now) start c.requires.empty c.requires.levels;
      began = ap (λ levels. first_or levels start) c.requires.levels;
      underway = subst (λ items. IsUnderway named start items c.in-Some.first c.new-tried.result start) (sym c.requires.empty) (underway_at named start is [] c.in-Some.first c.new-tried.result start tt c.requires.open (DiffersInEntries-itself start, refl) target chosen.1 c.new-tried.ensures has-none);
      stand = omega (arith, ap length c.requires.empty);
      until = refl;
      limit = refl;
      count = refl;
    }

pub next_letter-requires : goal.next_letter-requires
next_letter-requires g c =
    let start = g.E.Feasible.state c.args.engine.now in
    let underway = c.loop-letter.invariant.underway in
    let is = shaped (board_of start.grid) (g.met.E.Feasible.well_formed c.args.engine.now).board in
    open_there start (g.E.Feasible.state c.loop-letter.engine) c.loop-letter.cell underway.at.0 (target_open (flags c.args.plan.now.named.items) (position_of start) c.loop-letter.cell is underway.here.target)

pub is_only_letter-requires : goal.is_only_letter-requires
is_only_letter-requires g c =
    let start = g.E.Feasible.state c.args.engine.now in
    let underway = c.loop-letter.invariant.underway in
    let is = shaped (board_of start.grid) (g.met.E.Feasible.well_formed c.args.engine.now).board in
    open_there start (g.E.Feasible.state c.loop-letter.engine) c.loop-letter.cell underway.at.0 (target_open (flags c.args.plan.now.named.items) (position_of start) c.loop-letter.cell is underway.here.target)

pub retreat-requires : goal.retreat-requires
retreat-requires g c = record { stands = c.loop-letter.invariant.stands }

pub returns-in_default-retreat-clause-start : goal.returns-in_default-retreat-clause-start
returns-in_default-retreat-clause-start g c = c.retreat.ensures.start ∙ c.loop-letter.invariant.began

pub returns-in_default-retreat-clause-entries : goal.returns-in_default-retreat-clause-entries
returns-in_default-retreat-clause-entries g c =
    DiffersInEntries-then (g.E.Feasible.state c.args.engine.now) (g.E.Feasible.state c.loop-letter.engine) (g.E.Feasible.state c.retreat.new.engine) c.loop-letter.invariant.underway.at.0 c.retreat.ensures.entries

pub returns-in_default-retreat-clause-no_fill : goal.returns-in_default-retreat-clause-no_fill
returns-in_default-retreat-clause-no_fill g c is_none =
    let start = g.E.Feasible.state c.args.engine.now in
    let is = shaped (board_of start.grid) (g.met.E.Feasible.well_formed c.args.engine.now).board in
    underway_end (flags c.args.plan.now.named.items) start is c.loop-letter.stack.placements.items c.loop-letter.cell c.loop-letter.tried (g.E.Feasible.state c.loop-letter.engine) c.loop-letter.invariant.underway c.in_default-next_letter.ensures.none c.in_default-retreat.ensures.none

pub loop-letter-smaller-in_default-next_letter : goal.loop-letter-smaller-in_default-next_letter
loop-letter-smaller-in_default-next_letter g c =
    let taken = c.in-Some-retreat.ensures.back in
    omega (arith, ap length taken.placements_are, length-append c.retreat.new.self.placements.items (c.in-Some-retreat.below ∷ taken.after))

pub loop-letter-preserved-in_default-next_letter : goal.loop-letter-preserved-in_default-next_letter
loop-letter-preserved-in_default-next_letter g c =
    let start = g.E.Feasible.state c.args.engine.now in
    let named = flags c.args.plan.now.named.items in
    let is = shaped (board_of start.grid) (g.met.E.Feasible.well_formed c.args.engine.now).board in
    let inv = c.loop-letter.invariant in
    let taken = c.in-Some-retreat.ensures.back in
    record {
      stands = c.retreat.ensures.stands;
      began = c.retreat.ensures.start ∙ inv.began;
      underway = underway_back named start is c.loop-letter.stack.placements.items c.retreat.new.self.placements.items c.in-Some-retreat.below c.loop-letter.cell c.loop-letter.tried c.with_letter-tried.result
          (g.E.Feasible.state c.loop-letter.engine) (g.E.Feasible.state c.retreat.new.engine) inv.underway c.in_default-next_letter.ensures.none c.with_letter-tried.ensures taken;
      stand = omega (arith, inv.stand, ap length taken.placements_are, length-append c.retreat.new.self.placements.items (c.in-Some-retreat.below ∷ taken.after));
      until = inv.until;
      limit = inv.limit;
      count = omega (arith, inv.count, c.retreat.ensures.count);
    }

pub returns-then-is_spent-clause-start : goal.returns-then-is_spent-clause-start
returns-then-is_spent-clause-start g c = c.loop-letter.invariant.began

pub returns-then-is_spent-clause-entries : goal.returns-then-is_spent-clause-entries
returns-then-is_spent-clause-entries g c = c.loop-letter.invariant.underway.at.0

pub try_letter-requires-clause-can : goal.try_letter-requires-clause-can
try_letter-requires-clause-can g c =
    let start = g.E.Feasible.state c.args.engine.now in
    let underway = c.loop-letter.invariant.underway in
    let is = shaped (board_of start.grid) (g.met.E.Feasible.well_formed c.args.engine.now).board in
    record {
      opens = open_there start (g.E.Feasible.state c.loop-letter.engine) c.loop-letter.cell underway.at.0 (target_open (flags c.args.plan.now.named.items) (position_of start) c.loop-letter.cell is underway.here.target);
      empty = ap (λ e. entry_in e c.loop-letter.cell) underway.at.1 ∙ underway.here.empty;
      feasible = c.in-Some-next_letter.ensures.some.0;
    }

pub try_letter-requires-clause-alive : goal.try_letter-requires-clause-alive
try_letter-requires-clause-alive g c =
    let start = g.E.Feasible.state c.args.engine.now in
    let is = shaped (board_of start.grid) (g.met.E.Feasible.well_formed c.args.engine.now).board in
    underway_alive (flags c.args.plan.now.named.items) start is c.loop-letter.stack.placements.items c.loop-letter.cell c.loop-letter.tried (g.E.Feasible.state c.loop-letter.engine) c.args.plan.now.watched.items c.loop-letter.invariant.underway c.requires.plan.watched.are

pub try_letter-requires-clause-stands : goal.try_letter-requires-clause-stands
try_letter-requires-clause-stands g c = c.loop-letter.invariant.stands

pub returns-in_default-try_letter-clause-start : goal.returns-in_default-try_letter-clause-start
returns-in_default-try_letter-clause-start g c = c.try_letter.ensures.start ∙ c.loop-letter.invariant.began

pub returns-in_default-try_letter-clause-entries : goal.returns-in_default-try_letter-clause-entries
returns-in_default-try_letter-clause-entries g c =
    DiffersInEntries-then (g.E.Feasible.state c.args.engine.now) (g.E.Feasible.state c.loop-letter.engine) (g.E.Feasible.state c.try_letter.new.engine) c.loop-letter.invariant.underway.at.0 c.try_letter.ensures.entries

pub returns-then-fails-cut-clause-start : goal.returns-then-fails-cut-clause-start
returns-then-fails-cut-clause-start g c = c.try_letter.ensures.start ∙ c.loop-letter.invariant.began

pub returns-then-fails-cut-clause-entries : goal.returns-then-fails-cut-clause-entries
returns-then-fails-cut-clause-entries g c =
    DiffersInEntries-then (g.E.Feasible.state c.args.engine.now) (g.E.Feasible.state c.loop-letter.engine) (g.E.Feasible.state c.try_letter.new.engine) c.loop-letter.invariant.underway.at.0 c.try_letter.ensures.entries

pub loop-letter-smaller-then-not-stands : goal.loop-letter-smaller-then-not-stands
loop-letter-smaller-then-not-stands g c =
    let stack = c.loop-letter.stack.placements.items in
    let frame : Frame = record { cell = c.loop-letter.cell; letter = c.in-Some-next_letter.letter; tried = c.loop-letter.tried; is_forced = c.is_only_letter.result } in
    let led = subst (λ b. IsTried (flags c.args.plan.now.watched.items) frame b (g.E.Feasible.state c.loop-letter.engine) stack (g.E.Feasible.state c.try_letter.new.engine) c.try_letter.new.stack.placements.items) c.if-not-stands.true c.in-Ok.ensures.tried in
    omega (arith, c.try_letter.ensures.made, c.try_letter.ensures.until, c.is_spent.ensures.left c.if-is_spent.false, ap length led.0)

pub loop-letter-preserved-then-not-stands : goal.loop-letter-preserved-then-not-stands
loop-letter-preserved-then-not-stands g c =
    let start = g.E.Feasible.state c.args.engine.now in
    let now = g.E.Feasible.state c.loop-letter.engine in
    let after = g.E.Feasible.state c.try_letter.new.engine in
    let named = flags c.args.plan.now.named.items in
    let is = shaped (board_of start.grid) (g.met.E.Feasible.well_formed c.args.engine.now).board in
    let underway = c.loop-letter.invariant.underway in
    let stack = c.loop-letter.stack.placements.items in
    let frame : Frame = record { cell = c.loop-letter.cell; letter = c.in-Some-next_letter.letter; tried = c.loop-letter.tried; is_forced = c.is_only_letter.result } in
    let may = may_try named start stack c.loop-letter.cell c.loop-letter.tried c.in-Some-next_letter.letter now underway c.in-Some-next_letter.ensures.some in
    let led = subst (λ b. IsTried (flags c.args.plan.now.watched.items) frame b now stack after c.try_letter.new.stack.placements.items) c.if-not-stands.true c.in-Ok.ensures.tried in
    record {
      stands = c.try_letter.ensures.stands;
      began = c.try_letter.ensures.start ∙ c.loop-letter.invariant.began;
      underway = subst (λ items. IsUnderway named start items c.loop-letter.cell c.with_letter-tried-then-not-stands.result after) (sym led.0)
          (underway_tried named start is stack frame c.with_letter-tried-then-not-stands.result now led.2.0 after c.args.plan.now.watched.items underway may c.requires.plan.watched.are led.2.1 led.2.2 led.1 c.with_letter-tried-then-not-stands.ensures);
      stand = omega (arith, c.loop-letter.invariant.stand, c.try_letter.ensures.made, ap length led.0);
      until = c.try_letter.ensures.until ∙ c.loop-letter.invariant.until;
      limit = c.try_letter.ensures.limit ∙ c.loop-letter.invariant.limit;
      count = omega (arith, c.loop-letter.invariant.count, c.in-Ok.ensures.placed, c.try_letter.ensures.made);
    }

pub next_cell-requires-in-loop-letter-clause-open : goal.next_cell-requires-in-loop-letter-clause-open
next_cell-requires-in-loop-letter-clause-open g c =
    let start = g.E.Feasible.state c.args.engine.now in
    let now = g.E.Feasible.state c.try_letter.new.engine in
    let is = shaped (board_of start.grid) (g.met.E.Feasible.well_formed c.args.engine.now).board in
    let differs = DiffersInEntries-then start (g.E.Feasible.state c.loop-letter.engine) now c.loop-letter.invariant.underway.at.0 c.try_letter.ensures.entries in
    targets_open (flags c.args.plan.now.named.items) start now c.args.plan.now.targets.items c.deref-in-loop-letter.result.now differs is c.requires.plan.targets.sound c.deref-in-loop-letter.ensures.value

pub returns-in_default-next_cell-clause-start : goal.returns-in_default-next_cell-clause-start
returns-in_default-next_cell-clause-start g c = c.try_letter.ensures.start ∙ c.loop-letter.invariant.began

pub returns-in_default-next_cell-clause-entries : goal.returns-in_default-next_cell-clause-entries
returns-in_default-next_cell-clause-entries g c =
    DiffersInEntries-then (g.E.Feasible.state c.args.engine.now) (g.E.Feasible.state c.loop-letter.engine) (g.E.Feasible.state c.try_letter.new.engine) c.loop-letter.invariant.underway.at.0 c.try_letter.ensures.entries

pub returns-in_default-next_cell-clause-filled : goal.returns-in_default-next_cell-clause-filled
returns-in_default-next_cell-clause-filled g c is_filled =
    let start = g.E.Feasible.state c.args.engine.now in
    let now = g.E.Feasible.state c.loop-letter.engine in
    let after = g.E.Feasible.state c.try_letter.new.engine in
    let named = flags c.args.plan.now.named.items in
    let is = shaped (board_of start.grid) (g.met.E.Feasible.well_formed c.args.engine.now).board in
    let underway = c.loop-letter.invariant.underway in
    let stack = c.loop-letter.stack.placements.items in
    let frame : Frame = record { cell = c.loop-letter.cell; letter = c.in-Some-next_letter.letter; tried = c.loop-letter.tried; is_forced = c.is_only_letter.result } in
    let may = may_try named start stack c.loop-letter.cell c.loop-letter.tried c.in-Some-next_letter.letter now underway c.in-Some-next_letter.ensures.some in
    let led = subst (λ b. IsTried (flags c.args.plan.now.watched.items) frame b now stack after c.try_letter.new.stack.placements.items) c.if-not-stands.false c.in-Ok.ensures.tried in
    let on = underway_on named start is stack frame now after c.args.plan.now.watched.items underway may c.requires.plan.watched.are led.1 led.2 led.3 c.is_only_letter.ensures in
    open_is_fill named (position_of start) (entries_of after) (subst (IsOpen named (position_of start)) (sym on.2.1) on.0)
    (none_left named (position_of start) c.args.plan.now.targets.items c.deref-in-loop-letter.result.now (entries_of after) c.requires.plan.targets.all c.deref-in-loop-letter.ensures.value c.in_default-next_cell.ensures.none)

pub loop-letter-smaller : goal.loop-letter-smaller
loop-letter-smaller g c =
    let stack = c.loop-letter.stack.placements.items in
    let frame : Frame = record { cell = c.loop-letter.cell; letter = c.in-Some-next_letter.letter; tried = c.loop-letter.tried; is_forced = c.is_only_letter.result } in
    let led = subst (λ b. IsTried (flags c.args.plan.now.watched.items) frame b (g.E.Feasible.state c.loop-letter.engine) stack (g.E.Feasible.state c.try_letter.new.engine) c.try_letter.new.stack.placements.items) c.if-not-stands.false c.in-Ok.ensures.tried in
    omega (arith, c.try_letter.ensures.made, c.try_letter.ensures.until, c.is_spent.ensures.left c.if-is_spent.false, ap length led.0, length-append stack (frame ∷ []))

pub loop-letter-preserved : goal.loop-letter-preserved
loop-letter-preserved g c =
    let start = g.E.Feasible.state c.args.engine.now in
    let now = g.E.Feasible.state c.loop-letter.engine in
    let after = g.E.Feasible.state c.try_letter.new.engine in
    let named = flags c.args.plan.now.named.items in
    let is = shaped (board_of start.grid) (g.met.E.Feasible.well_formed c.args.engine.now).board in
    let underway = c.loop-letter.invariant.underway in
    let stack = c.loop-letter.stack.placements.items in
    let frame : Frame = record { cell = c.loop-letter.cell; letter = c.in-Some-next_letter.letter; tried = c.loop-letter.tried; is_forced = c.is_only_letter.result } in
    let may = may_try named start stack c.loop-letter.cell c.loop-letter.tried c.in-Some-next_letter.letter now underway c.in-Some-next_letter.ensures.some in
    let led = subst (λ b. IsTried (flags c.args.plan.now.watched.items) frame b now stack after c.try_letter.new.stack.placements.items) c.if-not-stands.false c.in-Ok.ensures.tried in
    let on = underway_on named start is stack frame now after c.args.plan.now.watched.items underway may c.requires.plan.watched.are led.1 led.2 led.3 c.is_only_letter.ensures in
    let cell = c.in-Some-next_cell.next in
    let chosen = c.in-Some-next_cell.ensures.some in
    let target = chosen_target named (position_of start) c.args.plan.now.targets.items c.deref-in-loop-letter.result.now cell c.requires.plan.targets.sound c.deref-in-loop-letter.ensures.value chosen.0 in
    record {
      stands = c.try_letter.ensures.stands;
      began = c.try_letter.ensures.start ∙ c.loop-letter.invariant.began;
      underway = subst (λ items. IsUnderway named start items cell c.new-tried-in-loop-letter.result after) (sym led.0)
          (underway_at named start is (stack ++ frame ∷ []) cell c.new-tried-in-loop-letter.result after on.1 on.0 on.2 target chosen.1 c.new-tried-in-loop-letter.ensures has-none);
      stand = omega (arith, c.loop-letter.invariant.stand, c.try_letter.ensures.made, ap length led.0, length-append stack (frame ∷ []));
      until = c.try_letter.ensures.until ∙ c.loop-letter.invariant.until;
      limit = c.try_letter.ensures.limit ∙ c.loop-letter.invariant.limit;
      count = omega (arith, c.loop-letter.invariant.count, c.in-Ok.ensures.placed, c.try_letter.ensures.made);
    }

pub returns-in_default-clause-counted : goal.returns-in_default-clause-counted
returns-in_default-clause-counted g c = counted-none c.args.allowance.now (g.E.Feasible.state c.args.engine.now)

pub returns-in_default-retreat-clause-counted : goal.returns-in_default-retreat-clause-counted
returns-in_default-retreat-clause-counted g c =
    let start = g.E.Feasible.state c.args.engine.now in
    let at = c.loop-letter.invariant.underway.at in
    let stack = c.loop-letter.stack.placements.items in
    let stand = c.loop-letter.invariant.stand in
    let counted = counted_letters c.args.allowance.now c.loop-letter.allowance start (g.E.Feasible.state c.loop-letter.engine) stack at.0 at.1 stand c.loop-letter.invariant.limit in
    record {
      made = counted.made;
      limit = counted.limit;
      idle = λ none. c.in_default-retreat.ensures.same (nil_from_length stack (omega (arith, stand, none))) ∙ counted.idle none;
    }

pub returns-then-is_spent-clause-counted : goal.returns-then-is_spent-clause-counted
returns-then-is_spent-clause-counted g c =
    let at = c.loop-letter.invariant.underway.at in
    counted_letters c.args.allowance.now c.loop-letter.allowance (g.E.Feasible.state c.args.engine.now) (g.E.Feasible.state c.loop-letter.engine) c.loop-letter.stack.placements.items at.0 at.1 c.loop-letter.invariant.stand c.loop-letter.invariant.limit

pub returns-in_default-try_letter-clause-counted : goal.returns-in_default-try_letter-clause-counted
returns-in_default-try_letter-clause-counted g c =
    counted_some c.args.allowance.now c.try_letter.new.allowance (g.E.Feasible.state c.args.engine.now) (g.E.Feasible.state c.try_letter.new.engine) (omega (arith, c.loop-letter.invariant.stand, c.try_letter.ensures.made)) (c.try_letter.ensures.limit ∙ c.loop-letter.invariant.limit)

pub returns-then-fails-cut-clause-counted : goal.returns-then-fails-cut-clause-counted
returns-then-fails-cut-clause-counted g c =
    counted_some c.args.allowance.now c.try_letter.new.allowance (g.E.Feasible.state c.args.engine.now) (g.E.Feasible.state c.try_letter.new.engine) (omega (arith, c.loop-letter.invariant.stand, c.try_letter.ensures.made)) (c.try_letter.ensures.limit ∙ c.loop-letter.invariant.limit)

pub returns-in_default-next_cell-clause-counted : goal.returns-in_default-next_cell-clause-counted
returns-in_default-next_cell-clause-counted g c =
    counted_some c.args.allowance.now c.try_letter.new.allowance (g.E.Feasible.state c.args.engine.now) (g.E.Feasible.state c.try_letter.new.engine) (omega (arith, c.loop-letter.invariant.stand, c.try_letter.ensures.made)) (c.try_letter.ensures.limit ∙ c.loop-letter.invariant.limit)

pub returns-then-fails-cut-clause-cut : goal.returns-then-fails-cut-clause-cut
returns-then-fails-cut-clause-cut g c is_cut = omega (arith, c.loop-letter.invariant.stand, c.try_letter.ensures.made)

pub returns-in_default-retreat-clause-placed : goal.returns-in_default-retreat-clause-placed
returns-in_default-retreat-clause-placed g c no_memory = omega (arith, c.loop-letter.invariant.count, c.retreat.ensures.count)

pub returns-in_default-retreat-clause-within : goal.returns-in_default-retreat-clause-within
returns-in_default-retreat-clause-within g c = omega (arith, c.loop-letter.invariant.count, c.retreat.ensures.count)

pub returns-then-is_spent-clause-placed : goal.returns-then-is_spent-clause-placed
returns-then-is_spent-clause-placed g c no_memory = c.loop-letter.invariant.count

pub returns-then-is_spent-clause-within : goal.returns-then-is_spent-clause-within
returns-then-is_spent-clause-within g c = omega (arith, c.loop-letter.invariant.count)

-- a letter that found no memory was counted and not placed
pub returns-in_default-try_letter-clause-within : goal.returns-in_default-try_letter-clause-within
returns-in_default-try_letter-clause-within g c = omega (arith, c.loop-letter.invariant.count, c.in_default-try_letter.ensures.none, c.try_letter.ensures.made)

pub returns-then-fails-cut-clause-placed : goal.returns-then-fails-cut-clause-placed
returns-then-fails-cut-clause-placed g c no_memory = omega (arith, c.loop-letter.invariant.count, c.in-Ok.ensures.placed, c.try_letter.ensures.made)

pub returns-then-fails-cut-clause-within : goal.returns-then-fails-cut-clause-within
returns-then-fails-cut-clause-within g c = omega (arith, c.loop-letter.invariant.count, c.in-Ok.ensures.placed, c.try_letter.ensures.made)

pub returns-in_default-next_cell-clause-placed : goal.returns-in_default-next_cell-clause-placed
returns-in_default-next_cell-clause-placed g c no_memory = omega (arith, c.loop-letter.invariant.count, c.in-Ok.ensures.placed, c.try_letter.ensures.made)

pub returns-in_default-next_cell-clause-within : goal.returns-in_default-next_cell-clause-within
returns-in_default-next_cell-clause-within g c = omega (arith, c.loop-letter.invariant.count, c.in-Ok.ensures.placed, c.try_letter.ensures.made)
