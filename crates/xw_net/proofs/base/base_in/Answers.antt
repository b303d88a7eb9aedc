use Rattle.std.proofs.Common.{◌≡◌, ◌+◌, ◌*◌, ◌&&◌, false, length, get_or, sym, ap, ◌∙◌, arith}
use Rattle.xw_bits.specs.Bits.{has_bit}
use Rattle.xw_words.specs.Dictionary.{entry_at}
use Rattle.xw_words.specs.Columns.{is_active}
use Rattle.xw_bits.proofs.BitLemmas.{has_bit-and, has_bit-none}
use Rattle.xw_feas.specs.Board.{entry}
use Rattle.xw_net.specs.Base.{has_entry}
use Rattle.xw_net.proofs.BaseRows.BaseBits.{base_so_far, base_first, base_more, base_all, base_never}
use Rattle.xw_net.proofs.base.base_in.Goals as goal

pub loop-position-init : goal.loop-position-init
loop-position-init g c =
    record {
      same = c.active-words.ensures.entries;
      risen = c.active-words.ensures.risen;
      spent = omega (arith, c.active-words.ensures.ticks);
      words = λ k lt. c.active-words.ensures.bits k lt ∙ ap (λ n. is_active (g.R.Rows.entries c.args.rows.now n) (64 * c.args.chunk + k)) c.len.ensures ∙ base_first c.args.board.now c.args.cells.now (entry_at (g.R.Rows.entries c.args.rows.now (length c.args.cells.now)) (64 * c.args.chunk + k));
    }

pub loop-position-preserved : goal.loop-position-preserved
loop-position-preserved g c =
    let inv = c.loop-position.invariant in
    let i = c.loop-position.position in
    let one = c.agreeing_in-words.result in
    record {
      same = c.agreeing_in-words.ensures.entries ∙ inv.same;
      risen = omega (arith, inv.risen, c.agreeing_in-words.ensures.risen);
      spent = omega (arith, c.agreeing_in-words.ensures.cost, inv.spent);
      words = λ k lt.
          has_bit-and c.loop-position.words one k
          ∙ ap (λ b. b && has_bit c.agreeing_in-words.result k) (inv.words k lt)
          ∙ ap (λ b. base_so_far c.args.board.now c.args.cells.now c.loop-position.position (entry_at (g.R.Rows.entries c.args.rows.now (length c.args.cells.now)) (64 * c.args.chunk + k)) && b)
          (c.agreeing_in-words.ensures.words k lt ∙ ap (λ d. has_entry (entry c.args.board.now (get_or c.args.cells.now c.loop-position.position 0)) (d (length c.args.cells.now)) c.loop-position.position (64 * c.args.chunk + k)) inv.same)
          ∙ base_more c.args.board.now c.args.cells.now (g.R.Rows.entries c.args.rows.now (length c.args.cells.now)) c.requires c.loop-position.position (64 * c.args.chunk + k) (omega arith);
    }

pub returns-clause-words : goal.returns-clause-words
returns-clause-words g c k lt =
    c.loop-position.invariant.words k lt
    ∙ base_all c.args.board.now c.args.cells.now (g.R.Rows.entries c.args.rows.now (length c.args.cells.now)) c.requires c.loop-position.position (64 * c.args.chunk + k) (omega arith)

pub returns-then-words-eq0-clause-words : goal.returns-then-words-eq0-clause-words
returns-then-words-eq0-clause-words g c k lt =
    let entries = g.R.Rows.entries c.args.rows.now (length c.args.cells.now) in
    let none : base_so_far c.args.board.now c.args.cells.now c.loop-position.position (entry_at entries (64 * c.args.chunk + k)) ≡ false =
    sym (c.loop-position.invariant.words k lt) ∙ ap (λ w. has_bit w k) c.if-words-eq0.true ∙ has_bit-none k in
    has_bit-none k ∙ sym (base_never c.args.board.now c.args.cells.now entries c.requires c.loop-position.position (64 * c.args.chunk + k) (omega arith) none)
