use Rattle.std.proofs.Common.{◌≡◌, ◌<◌, ◌+◌, ◌*◌, ℕ, false, ◌||◌, ◌&&◌, eqb, length, get_or, ap, ◌∙◌, arith}
use Rattle.std.proofs.lemmas.List.{get_or_default}
use Rattle.xw_letters.specs.LetterSet.{has}
use Rattle.xw_feas.specs.Board.{light_at}
use Rattle.xw_feas.specs.Flags.{set_has}
use Rattle.xw_net.specs.Marks.{side_of}
use Rattle.xw_net.specs.Nets.{pending_in, queued_in}
use Rattle.xw_net.proofs.Stripping.SearchStarts.{with_letters}
use Rattle.xw_net.specs.Worklist.{is_marked}
use Rattle.xw_net.proofs.Lists.ListsOfLights.{waits_grow}
use Rattle.xw_net.proofs.Lists.QueuedLights.{queued_more, grown_longer}
use Rattle.xw_net.proofs.net.Net.leave_all_pending.Goals as goal

pub returns-clause-shaped : goal.returns-clause-shaped
returns-clause-shaped c =
    let shaped = c.requires.shaped in
    record {
      few_cells = shaped.few_cells;
      rows = shaped.rows;
      entered = shaped.entered;
      letters = shaped.letters;
      held = shaped.held;
      restart = shaped.restart;
      pending = shaped.pending;
      queue = c.insert_urgent.ensures.grows.size ∙ shaped.queue;
    }

pub returns-clause-pending : goal.returns-clause-pending
unfolding pending_in
returns-clause-pending c slot other =
    let at = 2 * c.args.cell + c.side.result in
    let in_slots : at < length c.args.self.now.pending.items = omega (arith, c.requires.cell, c.side.ensures.small, c.requires.shaped.pending) in
    let side : c.side.result ≡ side_of (light_at c.args.board.now c.args.light) = c.side.ensures.side ∙ ap side_of c.light.ensures.cells in
    let gathered : (other : ℕ) → has c.with.result other ≡ (set_has c.args.self.now.pending.items (2 * c.args.cell + c.side.result) other || has c.args.gone other) = λ other.
    c.with.ensures other
    ∙ ap (λ s. has s other || has c.args.gone other) (c.index-pending.ensures ∙ get_or_default c.args.self.now.pending.items (2 * c.args.cell + c.side.result) c.index-pending.result.now 0 in_slots) in
    with_letters c.args.self.now.pending.items at c.with.result c.args.gone in_slots gathered slot other
    ∙ ap (λ n. set_has c.args.self.now.pending.items slot other || (eqb slot (2 * c.args.cell + n) && has c.args.gone other)) side

pub returns-clause-queued : goal.returns-clause-queued
unfolding queued_in
returns-clause-queued c other =
    let within : c.args.light < length c.args.self.now.queue.marks = omega (arith, c.requires.light, c.requires.shaped.queue) in
    ap (λ marks. get_or marks other false) c.insert_urgent.ensures.marks ∙ queued_more c.args.self.now.queue.marks c.args.light within other

pub returns-clause-waits : goal.returns-clause-waits
unfolding queued_in is_marked
returns-clause-waits c other waits is = waits_grow c.args.self.now.queue c.insert_urgent.new.self other c.insert_urgent.ensures.grows waits is

pub returns-clause-longer : goal.returns-clause-longer
returns-clause-longer c = omega (arith, ap length c.insert_urgent.ensures.lights, grown_longer (is_marked c.args.self.now.queue.marks c.args.light) c.args.self.now.queue.lights c.args.light)
