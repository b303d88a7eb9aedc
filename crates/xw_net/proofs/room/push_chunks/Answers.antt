use Rattle.std.proofs.Common.{◌*◌, false, replicate, ap, ◌∙◌, arith}
use Rattle.xw_net.proofs.Nets.RowRoom.{clear_row}
use Rattle.xw_net.proofs.room.push_chunks.Goals as goal

pub loop-preserved : goal.loop-preserved
loop-preserved c = record {
  bits = clear_row (64 * c.loop.counter) c.loop.row.bits c.push_chunk.new.self.bits c.loop.invariant.bits c.push_chunk.ensures.len c.push_chunk.ensures.bits ∙ ap (λ n. replicate n false) (omega arith);
  room = omega (arith, c.loop.invariant.room, c.push_chunk.ensures.room);
}
