use Rattle.std.proofs.Common.{◌≡◌, ℕ, ◌≤◌, ◌+◌, ◌*◌, List, length, refl, sym, ap, subst, ◌∙◌, arith}
use Rattle.xw_words.specs.Dictionary.{Entry}
use Rattle.xw_net.specs.Base.{KeepsAgreeing, KeepsEntry}
use Rattle.xw_net.specs.Region.{chunks_of}
use Rattle.xw_net.proofs.BaseRows.FilledRows.{keeps_none, keeps_past, keeps_here}
use Rattle.xw_net.proofs.base.keep_entry.Goals as goal

pub loop-position-init : goal.loop-position-init
loop-position-init g c = record {
  same = refl;
  risen = omega arith;
  spent = omega arith;
  long = refl;
  keeps = keeps_none c.args.board.now c.args.cells.now (g.R.Rows.entries c.args.rows.now) c.args.cell c.args.row.now.bits;
  room = refl;
}

pub loop-position-preserved-then-at-cell : goal.loop-position-preserved-then-at-cell
loop-position-preserved-then-at-cell g c =
    let inv = c.loop-position.invariant in
    let many = chunks_of (length c.args.row.now.bits) in
    let more : (c.loop-position.position + 1) * many ≡ c.loop-position.position * many + many = grind arith in
    record {
      same = inv.same;
      risen = inv.risen;
      spent = omega (arith, inv.spent, more);
      long = inv.long;
      keeps = keeps_past c.args.board.now c.args.cells.now (g.R.Rows.entries c.args.rows.now) c.args.cell c.args.row.now.bits c.loop-position.position c.loop-position.row.bits (λ at. c.if-at-cell.true (c.at.ensures ∙ at)) inv.keeps;
      room = inv.room;
    }

pub keep_agreeing-requires-clause-row : goal.keep_agreeing-requires-clause-row
keep_agreeing-requires-clause-row g c =
    c.loop-position.invariant.long ∙ c.requires.row ∙ sym (ap (λ (d : ℕ → List Entry). length (d (length c.args.cells.now))) c.loop-position.invariant.same)

pub loop-position-preserved : goal.loop-position-preserved
loop-position-preserved g c =
    let inv = c.loop-position.invariant in
    let many = chunks_of (length c.args.row.now.bits) in
    let more : (c.loop-position.position + 1) * many ≡ c.loop-position.position * many + many = grind arith in
    record {
      same = c.keep_agreeing.ensures.entries ∙ inv.same;
      risen = omega (arith, inv.risen, c.keep_agreeing.ensures.risen);
      spent = omega (arith, inv.spent, inv.long, c.keep_agreeing.ensures.cost, more);
      long = c.keep_agreeing.ensures.len ∙ inv.long;
      keeps = keeps_here c.args.board.now c.args.cells.now (g.R.Rows.entries c.args.rows.now) c.args.cell c.args.row.now.bits c.loop-position.position c.loop-position.row.bits c.keep_agreeing.new.row.bits (sym c.at.ensures ∙ c.if-at-cell.false) inv.keeps
          (subst (λ d. KeepsAgreeing c.args.board.now c.args.cells.now d c.loop-position.position c.loop-position.row.bits c.keep_agreeing.new.row.bits) inv.same c.keep_agreeing.ensures.bits);
      room = c.keep_agreeing.ensures.room ∙ inv.room;
    }

pub returns-clause-bits : goal.returns-clause-bits
returns-clause-bits g c =
    let inv = c.loop-position.invariant in
    let all : c.loop-position.position ≡ length c.args.cells.now = omega arith in
    subst (λ n. KeepsEntry c.args.board.now c.args.cells.now (g.R.Rows.entries c.args.rows.now) c.args.cell n c.args.row.now.bits c.loop-position.row.bits) all inv.keeps

pub returns-clause-cost : goal.returns-clause-cost
returns-clause-cost g c =
    let inv = c.loop-position.invariant in
    let all : c.loop-position.position ≡ length c.args.cells.now = omega arith in
    subst (λ n. g.R.Rows.ticks c.loop-position.rows ≤ g.R.Rows.ticks c.args.rows.now + n * chunks_of (length c.args.row.now.bits)) all inv.spent
