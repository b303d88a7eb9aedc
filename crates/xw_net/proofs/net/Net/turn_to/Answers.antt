use Rattle.std.proofs.Common.{length, false, None, sym, ap, subst, ◌∙◌, arith}
use Rattle.std.specs.Prelude.{vec_len}
use Rattle.std.proofs.lemmas.List.{length-replicate}
use Rattle.xw_net.specs.Room.{counts_of}
use Rattle.xw_net.specs.Worklist.{ListOfLights, is_marked}
use Rattle.xw_net.specs.Fit.{HasRoomBetween, Follows}
use Rattle.xw_net.specs.declared.net.Net.{Net}
use Rattle.xw_net.proofs.Nets.TurnedNets.{follows_kept, none_marked, turned_row, turned_near, turned_flag, turned_lights}
use Rattle.xw_net.proofs.net.Net.turn_to.Goals as goal

pub returns-in-Some : goal.returns-in-Some
unfolding is_marked
returns-in-Some g c = record {
  rest =
      let had = c.requires.rest in
      let is = c.renumber.ensures.renumbered in
      let same = c.renumber.ensures.rest in
      let queued_long = ap (λ (list : ListOfLights). length list.marks) is.queue ∙ length-replicate (length c.args.lights.now) false in
      let marked_long = ap (λ (list : ListOfLights). length list.marks) is.chain ∙ length-replicate (length c.args.lights.now) false in
      record {
        few_cells = had.few_cells;
        rows = omega (arith, is.rows.long);
        base = omega (arith, is.base.long);
        entered = omega (arith, is.entered.long);
        letters = ap (λ (n : Net). vec_len n.letters) same;
        held = ap (λ (n : Net). vec_len n.held) same ∙ had.held;
        restart = ap (λ (n : Net). vec_len n.restart) same ∙ had.restart;
        pending = ap (λ (n : Net). vec_len n.pending) same ∙ had.pending;
        queue = ap (λ (list : ListOfLights). list.lights) is.queue;
        queued_long = queued_long;
        is_queued = λ light. ap (λ (list : ListOfLights). is_marked list.marks light) is.queue ∙ none_marked (length c.args.lights.now) light;
        taken = ap (λ (list : ListOfLights). list.lights) is.chain;
        marked_long = marked_long;
        is_marked = λ light. ap (λ (list : ListOfLights). is_marked list.marks light) is.chain ∙ none_marked (length c.args.lights.now) light;
      };
  rows = turned_near c.args.before.now c.args.lights.now c.requires.lights (counts_of (g.R.Rows.entries c.args.words.now)) c.args.self.now.rows.items c.renumber.new.self.rows.items c.renumber.ensures.renumbered.rows None c.requires.rows;
  base = turned_near c.args.before.now c.args.lights.now c.requires.lights (counts_of (g.R.Rows.entries c.args.words.now)) c.args.self.now.base.items c.renumber.new.self.base.items c.renumber.ensures.renumbered.base None c.requires.base;
  room =
      let had = subst (HasRoomBetween c.args.before.now c.args.lights.now (counts_of (g.R.Rows.entries c.args.words.now)) c.args.self.now) (sym c.in-Some.ensures.value) c.requires.room in
      c.renumber.ensures.room (record { rows = had.0.rows; base = had.0.base });
  turned =
      let is = c.renumber.ensures.renumbered in
      record {
        rows = turned_row c.args.before.now c.args.lights.now c.requires.lights (counts_of (g.R.Rows.entries c.args.words.now)) c.args.self.now.rows.items c.renumber.new.self.rows.items is.rows;
        base = turned_row c.args.before.now c.args.lights.now c.requires.lights (counts_of (g.R.Rows.entries c.args.words.now)) c.args.self.now.base.items c.renumber.new.self.base.items is.base;
        entered = turned_flag c.args.before.now c.args.lights.now c.requires.lights (counts_of (g.R.Rows.entries c.args.words.now)) c.args.self.now.entered.items c.renumber.new.self.entered.items is.entered;
        lights = λ had. turned_lights c.args.before.now c.args.lights.now c.requires.lights (counts_of (g.R.Rows.entries c.args.words.now)) _ c.renumber.new.self is;
        rest = c.renumber.ensures.rest ∙ ap (λ s. record c.args.self.now { rows = c.renumber.new.self.rows; base = c.renumber.new.self.base; entered = c.renumber.new.self.entered; queue = c.renumber.new.self.queue; chain = c.renumber.new.self.chain; spare = s }) c.in-Some.ensures.after;
      };
}

pub returns-in_default : goal.returns-in_default
returns-in_default g c =
    let room = subst (HasRoomBetween c.args.before.now c.args.lights.now (counts_of (g.R.Rows.entries c.args.words.now)) c.args.self.now) (sym c.in_default.ensures.value) c.requires.room in
    subst (λ spare. Follows c.args.before.now c.args.lights.now (counts_of (g.R.Rows.entries c.args.words.now)) None c.args.self.now (record c.args.self.now { spare = spare })) (sym c.take.ensures.after)
    (follows_kept c.args.before.now c.args.lights.now (counts_of (g.R.Rows.entries c.args.words.now)) None c.args.self.now room.0 c.requires.lights c.requires.rest c.requires.rows c.requires.base c.requires.room)

pub renumber-requires-clause-spare : goal.renumber-requires-clause-spare
renumber-requires-clause-spare g c =
    let had = subst (HasRoomBetween c.args.before.now c.args.lights.now (counts_of (g.R.Rows.entries c.args.words.now)) c.args.self.now) (sym c.in-Some.ensures.value) c.requires.room in
    record { arrays = had.1.arrays; queue = had.1.queue; chain = had.1.chain }
