use Rattle.std.proofs.Common.{◌≡◌, List, length, refl, ap, ◌∙◌, arith}
use Rattle.std.proofs.lemmas.List.{with_items_is}
use Rattle.xw_bits.specs.Bits.{RowOfBits}
use Rattle.xw_net.specs.Room.{row_at, AreRoomier}
use Rattle.xw_net.proofs.net.Net.keep_counts.Goals as goal

-- equal rows have the same room
same_roomier : (old new : List RowOfBits) → new ≡ old → AreRoomier old new
same_roomier old new same = record {
  long = ap length same;
  bits = λ light. ap (λ rows. (row_at rows light).bits) same;
  room = λ light. omega (arith, ap (λ rows. (row_at rows light).room) same);
}

pub returns : goal.returns
returns c =
    let rows = c.args.self.now.rows in
    record {
      rows = same_roomier rows.items _ (with_items_is rows c.keep_counts.new.rows (omega (arith, c.keep_counts.auto.rows, c.deref_mut.ensures.len)) ∙ c.keep_counts.ensures ∙ c.deref_mut.ensures.value);
      base = same_roomier c.args.self.now.base.items _ refl;
      queue = record { marks = refl; lights = refl; room = omega arith };
      chain = record { marks = refl; lights = refl; room = omega arith };
      rest = refl;
    }
