use Rattle.std.proofs.Common.{◌≡◌, ◌+◌, ◌*◌, ◌&&◌, length, get_or, ap, ◌∙◌, arith}
use Rattle.xw_words.specs.Dictionary.{entry_at}
use Rattle.xw_words.specs.Columns.{is_active}
use Rattle.xw_feas.specs.Board.{entry}
use Rattle.xw_net.specs.Base.{has_entry}
use Rattle.xw_net.specs.Region.{chunks_of}
use Rattle.xw_net.proofs.BaseRows.BaseBits.{base_so_far, base_first, base_more, base_all}
use Rattle.xw_net.proofs.base.read_open.Goals as goal

pub loop-position-init : goal.loop-position-init
loop-position-init g c = record {
  same = c.read_active.ensures.entries;
  risen = c.read_active.ensures.risen;
  spent = omega (arith, c.read_active.ensures.ticks);
  long = c.read_active.ensures.len;
  room = c.read_active.ensures.room;
  bits = λ i. c.read_active.ensures.bits i ∙ ap (λ n. is_active (g.R.Rows.entries c.args.rows.now n) i) c.len.ensures ∙ base_first c.args.board.now c.args.cells.now (entry_at (g.R.Rows.entries c.args.rows.now (length c.args.cells.now)) i);
}

pub loop-position-preserved : goal.loop-position-preserved
loop-position-preserved g c =
    let inv = c.loop-position.invariant in
    let many = chunks_of (length c.args.row.now.bits) in
    let more : (c.loop-position.position + 1 + 1) * many ≡ (c.loop-position.position + 1) * many + many = grind arith in
    record {
      same = c.keep_agreeing.ensures.entries ∙ inv.same;
      risen = omega (arith, inv.risen, c.keep_agreeing.ensures.risen);
      spent = omega (arith, inv.spent, inv.long, c.keep_agreeing.ensures.cost, more);
      long = c.keep_agreeing.ensures.len ∙ inv.long;
      room = c.keep_agreeing.ensures.room ∙ inv.room;
      bits = λ i.
          c.keep_agreeing.ensures.bits i
          ∙ ap (λ b. b && has_entry (entry c.args.board.now (get_or c.args.cells.now c.loop-position.position 0)) (g.R.Rows.entries c.loop-position.rows (length c.args.cells.now)) c.loop-position.position i) (inv.bits i)
          ∙ ap (λ d. base_so_far c.args.board.now c.args.cells.now c.loop-position.position (entry_at (g.R.Rows.entries c.args.rows.now (length c.args.cells.now)) i) && has_entry (entry c.args.board.now (get_or c.args.cells.now c.loop-position.position 0)) (d (length c.args.cells.now)) c.loop-position.position i) inv.same
          ∙ base_more c.args.board.now c.args.cells.now (g.R.Rows.entries c.args.rows.now (length c.args.cells.now)) c.requires.long c.loop-position.position i (omega arith);
    }

pub returns-clause-bits : goal.returns-clause-bits
returns-clause-bits g c i =
    c.loop-position.invariant.bits i
    ∙ base_all c.args.board.now c.args.cells.now (g.R.Rows.entries c.args.rows.now (length c.args.cells.now)) c.requires.long c.loop-position.position i (omega arith)
