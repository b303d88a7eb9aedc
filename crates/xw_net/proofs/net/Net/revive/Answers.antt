use Rattle.std.proofs.Common.{sym, subst}
use Rattle.std.specs.Prelude.{vec_len}
use Rattle.xw_net.specs.Nets.{IsShaped, HasBits}
use Rattle.xw_net.specs.Update.{IsSized}
use Rattle.xw_net.specs.Filled.{AreLong, HasRowRoom}
use Rattle.xw_net.specs.Room.{counts_of}
use Rattle.xw_net.specs.Change.{before_of, word_of}
use Rattle.xw_net.proofs.Nets.NetsAtRest.{stood_rest, stood_rows, stood_base}
use Rattle.xw_net.proofs.Nets.SizesAtRest.{rest_shaped, rest_chained, rest_bits, rest_base, rest_room, rest_queued, rest_marked}
use Rattle.xw_net.proofs.net.Net.revive.Goals as goal

pub revive_moved-requires : goal.revive_moved-requires
revive_moved-requires g c = record {
  boards = c.new-board.ensures;
  are_lights = c.requires.lights;
  inside = c.requires.inside;
  long = subst (λ b. AreLong b (g.R.Rows.entries c.args.rows.now)) (sym c.new-board.ensures) c.requires.long;
  sized = subst (λ b. IsSized b (g.R.Rows.entries c.args.rows.now) c.move_to.new.self) (sym c.new-board.ensures) (record {
    shaped = rest_shaped c.args.grid.now c.args.lights.now (vec_len c.args.self.now.letters) c.move_to.new.self c.requires.lights c.requires.cells c.move_to.ensures.rest;
    chained = rest_chained c.args.grid.now c.args.lights.now (vec_len c.args.self.now.letters) c.move_to.new.self c.requires.lights c.requires.cells c.move_to.ensures.rest;
    bits = rest_bits c.args.grid.now c.args.lights.now (vec_len c.args.self.now.letters) c.move_to.new.self c.requires.lights c.requires.cells c.move_to.ensures.rest (g.R.Rows.entries c.args.rows.now) c.move_to.ensures.whole.rows;
    base = rest_base c.args.grid.now c.args.lights.now (vec_len c.args.self.now.letters) c.move_to.new.self c.requires.lights c.requires.cells c.move_to.ensures.rest (g.R.Rows.entries c.args.rows.now) c.move_to.ensures.whole.base;
  });
  queued = rest_queued c.args.grid.now c.args.lights.now (vec_len c.args.self.now.letters) c.move_to.new.self c.requires.lights c.requires.cells c.move_to.ensures.rest;
  seeds = rest_marked c.args.grid.now c.args.lights.now (vec_len c.args.self.now.letters) c.move_to.new.self c.requires.lights c.requires.cells c.move_to.ensures.rest;
}

pub move_to-requires : goal.move_to-requires
move_to-requires g c =
    let before = before_of c.args.lights.now c.args.change.now in
    let counts = counts_of (g.R.Rows.entries c.args.rows.now) in
    record {
      lights = record { grid = c.args.grid.now; are = c.requires.lights };
      rest = stood_rest before (word_of c.args.change.now) counts c.args.self.now c.requires.stood;
      room = c.requires.room;
      rows = stood_rows before (word_of c.args.change.now) counts c.args.self.now c.requires.stood;
      base = stood_base before (word_of c.args.change.now) counts c.args.self.now c.requires.stood;
    }

pub returns-clause-shaped : goal.returns-clause-shaped
returns-clause-shaped g c = subst (λ b. IsShaped b c.revive_moved.new.self) c.new-board.ensures c.revive_moved.ensures.shaped

pub returns-clause-bits : goal.returns-clause-bits
returns-clause-bits g c = subst (λ b. HasBits b (g.R.Rows.entries c.args.rows.now) c.revive_moved.new.self) c.new-board.ensures c.revive_moved.ensures.bits

pub returns-clause-revived : goal.returns-clause-revived
returns-clause-revived g c before words action read is settled =
    c.revive_moved.ensures.revived before words action c.args.self.now read is settled.filled
    (c.move_to.ensures.moved before (record { grid = c.args.grid.now; words = words }) is.lights c.requires.lights read settled.filled)
    (subst (λ b. HasRowRoom b (g.R.Rows.entries c.args.rows.now) c.move_to.new.self.rows.items) (sym c.new-board.ensures)
    (rest_room c.args.grid.now c.args.lights.now (vec_len c.args.self.now.letters) c.move_to.new.self c.requires.lights c.requires.cells c.move_to.ensures.rest (g.R.Rows.entries c.args.rows.now) c.move_to.new.self.rows.items c.move_to.ensures.room.rows))
    (subst (λ b. HasRowRoom b (g.R.Rows.entries c.args.rows.now) c.move_to.new.self.base.items) (sym c.new-board.ensures)
    (rest_room c.args.grid.now c.args.lights.now (vec_len c.args.self.now.letters) c.move_to.new.self c.requires.lights c.requires.cells c.move_to.ensures.rest (g.R.Rows.entries c.args.rows.now) c.move_to.new.self.base.items c.move_to.ensures.room.base))

pub returns-clause-cost : goal.returns-clause-cost
returns-clause-cost g c before words action member read is settled region =
    c.revive_moved.ensures.cost before words action c.args.self.now member read is settled.filled
    (c.move_to.ensures.moved before (record { grid = c.args.grid.now; words = words }) is.lights c.requires.lights read settled.filled) region
