use Rattle.std.proofs.Common.{◌<◌, suc, sym, ◌∙◌, ap, subst}
use Rattle.xw_search.specs.Position.{position_of}
use Rattle.xw_search.specs.Lights.{light_count, is_entered}
use Rattle.xw_fill.specs.Inner.EnteredSince.{noted, AreEntered, SpellApart, StayNoted}
use Rattle.xw_fill.specs.Inner.Tries.{word_of}
use Rattle.xw_search.proofs.LetterSearch.{position_at}
use Rattle.xw_search.proofs.Shaped.{shaped}
use Rattle.xw_fill.proofs.EnteredSinceLemmas.{apart-stay}
use Rattle.xw_fill.proofs.RepeatLemmas.{placed-apart}
use Rattle.xw_fill.proofs.ScanLemmas.{outlook-blocked, outlook-open}
use Rattle.xw_fill.proofs.SearchLemmas.{placed-entered}
use Rattle.xw_search.proofs.StackLemmas.{count_more}
use Rattle.xw_fill.proofs.Trail.{feasible_agrees}
use Rattle.xw_fill.proofs.TryingLemmas.{try_placed, try_died}
use Rattle.xw_fill.proofs.search.try_word.Goals as goal

pub note_entered-requires-clause-long : goal.note_entered-requires-clause-long
note_entered-requires-clause-long g c = c.requires.long ∙ ap light_count (sym (position_at (g.E.Feasible.state c.args.engine.now) (g.E.Feasible.state c.try_place.new.engine) c.try_place.ensures.entries))

pub note_entered-requires-clause-before : goal.note_entered-requires-clause-before
note_entered-requires-clause-before g c = λ light below noted_before.
    let start = position_of (g.E.Feasible.state c.args.engine.now) in
    let tried = c.args.tried in
    let word = word_of start tried in
    let may = c.requires.may in
    let placed = try_placed _ tried (g.E.Feasible.state c.args.engine.now) (g.E.Feasible.state c.try_place.new.engine) c.args.stack.now.placements.items c.try_place.new.self.placements.items c.in_ok-dead.dead c.in_default.is c.in_ok-dead.ensures.tried in
    let made = placed.1 in
    let agree = feasible_agrees start tried.light word may.light_in may.not_entered may.feasible in
    let below_then = subst (λ position. light < light_count position) made.placed below in
    let count = count_more c.args.stack.now.placements.items c.try_place.new.self.placements.items tried c.len-placement.result c.len-placement.ensures placed.0 in
    let entered = subst (λ n. AreEntered start (noted c.args.since.now n)) (sym count) c.requires.entered in
    ap (λ position. is_entered position light) made.placed
    ∙ placed-entered start tried.light word (shaped start.board (g.met.E.Feasible.well_formed c.args.engine.now).board) agree light (sym (entered light below_then) ∙ noted_before)

pub has_new_repeat-requires-clause-apart : goal.has_new_repeat-requires-clause-apart
has_new_repeat-requires-clause-apart g c =
    let start = position_of (g.E.Feasible.state c.args.engine.now) in
    let tried = c.args.tried in
    let word = word_of start tried in
    let may = c.requires.may in
    let placed = try_placed _ tried (g.E.Feasible.state c.args.engine.now) (g.E.Feasible.state c.try_place.new.engine) c.args.stack.now.placements.items c.try_place.new.self.placements.items c.in_ok-dead.dead c.in_default.is c.in_ok-dead.ensures.tried in
    let made = placed.1 in
    let agree = feasible_agrees start tried.light word may.light_in may.not_entered may.feasible in
    let count = count_more c.args.stack.now.placements.items c.try_place.new.self.placements.items tried c.len-placement.result c.len-placement.ensures placed.0 in
    let entered = subst (λ n. AreEntered start (noted c.args.since.now n)) (sym count) c.requires.entered in
    apart-stay (position_of (g.E.Feasible.state c.try_place.new.engine)) c.len-placement.result c.args.since.now c.note_entered.new.since c.note_entered.ensures.stay
    (subst (λ position. SpellApart position (noted c.args.since.now c.len-placement.result)) (sym made.placed)
    (placed-apart start (noted c.args.since.now c.len-placement.result) tried.light word (shaped start.board (g.met.E.Feasible.well_formed c.args.engine.now).board) agree c.requires.alive entered))

pub returns-in-Some-clause-led : goal.returns-in-Some-clause-led
returns-in-Some-clause-led g c =
    try_died _ c.args.tried (g.E.Feasible.state c.args.engine.now) (g.E.Feasible.state c.try_place.new.engine) c.args.stack.now.placements.items c.try_place.new.self.placements.items c.in_ok-dead.dead c.in-Some._light c.args.since.now c.in-Some.is c.in_ok-dead.ensures.tried

pub returns-in-Blocked-clause-led : goal.returns-in-Blocked-clause-led
returns-in-Blocked-clause-led g c =
    let tried = c.args.tried in
    let after = position_of (g.E.Feasible.state c.try_place.new.engine) in
    let placed = try_placed _ tried (g.E.Feasible.state c.args.engine.now) (g.E.Feasible.state c.try_place.new.engine) c.args.stack.now.placements.items c.try_place.new.self.placements.items c.in_ok-dead.dead c.in_default.is c.in_ok-dead.ensures.tried in
    let count = count_more c.args.stack.now.placements.items c.try_place.new.self.placements.items tried c.len-placement.result c.len-placement.ensures placed.0 in
    record {
      made = placed.1;
      pushed = placed.0;
      entered = subst (λ n. AreEntered after (noted c.note_entered.new.since (suc n))) count c.note_entered.ensures.within;
      step = sym (outlook-blocked after c.scan_lights.result c.scan_lights.ensures c.in-Blocked.is);
    }

pub returns-in-Open-clause-led : goal.returns-in-Open-clause-led
returns-in-Open-clause-led g c =
    let tried = c.args.tried in
    let after = position_of (g.E.Feasible.state c.try_place.new.engine) in
    let placed = try_placed _ tried (g.E.Feasible.state c.args.engine.now) (g.E.Feasible.state c.try_place.new.engine) c.args.stack.now.placements.items c.try_place.new.self.placements.items c.in_ok-dead.dead c.in_default.is c.in_ok-dead.ensures.tried in
    let count = count_more c.args.stack.now.placements.items c.try_place.new.self.placements.items tried c.len-placement.result c.len-placement.ensures placed.0 in
    record {
      made = placed.1;
      pushed = placed.0;
      entered = subst (λ n. AreEntered after (noted c.note_entered.new.since (suc n))) count c.note_entered.ensures.within;
      step = c.open_outlook.ensures ∙ sym (outlook-open after c.scan_lights.result c.in-Open.chosen c.has_new_repeat.result c.scan_lights.ensures c.in-Open.is c.has_new_repeat.ensures);
    }

pub has_new_repeat-requires-clause-long : goal.has_new_repeat-requires-clause-long
has_new_repeat-requires-clause-long g c =
    c.note_entered.ensures.long ∙ c.requires.long ∙ ap light_count (sym (position_at (g.E.Feasible.state c.args.engine.now) (g.E.Feasible.state c.try_place.new.engine) c.try_place.ensures.entries))

pub has_new_repeat-requires-clause-noted : goal.has_new_repeat-requires-clause-noted
has_new_repeat-requires-clause-noted g c = c.note_entered.ensures.entered

pub returns-in-Blocked-clause-stay : goal.returns-in-Blocked-clause-stay
returns-in-Blocked-clause-stay g c =
    let placed = try_placed _ c.args.tried (g.E.Feasible.state c.args.engine.now) (g.E.Feasible.state c.try_place.new.engine) c.args.stack.now.placements.items c.try_place.new.self.placements.items c.in_ok-dead.dead c.in_default.is c.in_ok-dead.ensures.tried in
    let count = count_more c.args.stack.now.placements.items c.try_place.new.self.placements.items c.args.tried c.len-placement.result c.len-placement.ensures placed.0 in
    subst (λ n. StayNoted n c.args.since.now c.note_entered.new.since) count c.note_entered.ensures.stay

pub returns-in-Open-clause-stay : goal.returns-in-Open-clause-stay
returns-in-Open-clause-stay g c =
    let placed = try_placed _ c.args.tried (g.E.Feasible.state c.args.engine.now) (g.E.Feasible.state c.try_place.new.engine) c.args.stack.now.placements.items c.try_place.new.self.placements.items c.in_ok-dead.dead c.in_default.is c.in_ok-dead.ensures.tried in
    let count = count_more c.args.stack.now.placements.items c.try_place.new.self.placements.items c.args.tried c.len-placement.result c.len-placement.ensures placed.0 in
    subst (λ n. StayNoted n c.args.since.now c.note_entered.new.since) count c.note_entered.ensures.stay
