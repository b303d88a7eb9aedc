use Rattle.std.proofs.Common.{◌≡◌, ℕ, ◌<◌, ◌≤◌, ◌+◌, ◌*◌, length, get_or, set, subst, sym, ap, ◌∙◌, inl, inr, arith}
use Rattle.std.proofs.lemmas.List.{length-set}
use Rattle.std.proofs.lemmas.Bool.{cases_eq, both_ways}
use Rattle.xw_feas.specs.Board.{light_at}
use Rattle.xw_net.specs.Base.{base_bits, IsBaseBut, IsRowBut, WasBase}
use Rattle.xw_net.specs.Begin.{is_read}
use Rattle.xw_net.specs.Region.{chunks_of}
use Rattle.xw_net.specs.Spread.{bits_in}
use Rattle.xw_net.specs.Worklist.{is_marked}
use Rattle.xw_net.proofs.Costs.BaseRowCosts.{cost_here, cost_more, cost_in, cost_all}
use Rattle.xw_net.proofs.BaseRows.WrittenRows.{bits_read, bits_here, bits_other, room_other}
use Rattle.xw_net.proofs.base.read_marked.Goals as goal

pub read_row-requires-clause-bits : goal.read_row-requires-clause-bits
read_row-requires-clause-bits g c =
    let inv = c.loop-light.invariant in
    let in_board : c.loop-light.light < length c.args.board.now.lights = omega (arith, c.loop-light-test.true, c.light_count-light-end.ensures) in
    let within : c.loop-light.light < length c.loop-light.base = omega (arith, in_board, inv.base.rows) in
    ap length (bits_read c.loop-light.base c.loop-light.light within c.index-base-light.result) ∙ inv.base.bits c.loop-light.light in_board
    ∙ sym (ap (λ d. length (d (length (light_at c.args.board.now c.loop-light.light)))) inv.same)

pub loop-light-preserved-then-not-is_read : goal.loop-light-preserved-then-not-is_read
loop-light-preserved-then-not-is_read g c =
    let inv = c.loop-light.invariant in
    record {
      same = inv.same;
      risen = inv.risen;
      base = inv.base;
      later = λ light le. inv.later light (omega (arith, le));
      on = λ light lt m but was. elim (cases_eq light c.loop-light.light) [
        | inl e ↦ absurd (both_ways (is_read c.args.board.now c.args.word (is_marked c.args.list.now.marks) light) (ap (is_read c.args.board.now c.args.word (is_marked c.args.list.now.marks)) e ∙ sym c.is_read.ensures ∙ c.if-not-is_read.true) m)
        | inr n ↦ inv.on light (omega arith) m but was
      ];
      row_room = inv.row_room;
      off = inv.off;
      spent = λ member has. omega (arith, inv.spent member has, cost_more c.args.board.now (g.R.Rows.entries c.args.rows.now) member c.loop-light.light);
    }

pub loop-light-preserved : goal.loop-light-preserved
loop-light-preserved g c =
    let inv = c.loop-light.invariant in
    let k = c.read_row in
    let within : c.loop-light.light < length c.loop-light.base = omega (arith, c.loop-light-test.true, c.light_count-light-end.ensures, inv.base.rows) in
    let read = bits_read c.loop-light.base c.loop-light.light within c.index-base-light.result in
    let here_is = bits_here c.loop-light.base c.loop-light.light within c.read_row.new.row in
    let others = bits_other c.loop-light.base c.loop-light.light within c.read_row.new.row in
    let wide : length (bits_in (set c.loop-light.base c.loop-light.light c.read_row.new.row) c.loop-light.light) ≡ length (bits_in c.loop-light.base c.loop-light.light) = ap length here_is ∙ k.ensures.len ∙ ap length read in
    let board = c.args.board.now in
    let o = c.loop-light.light in
    let in_board : c.loop-light.light < length c.args.board.now.lights = omega (arith, c.loop-light-test.true, c.light_count-light-end.ensures) in
    let right : (light : ℕ) → light ≡ c.loop-light.light → IsBaseBut c.args.board.now (light_at c.args.board.now light) (g.R.Rows.entries c.args.rows.now (length (light_at c.args.board.now light))) c.args.word (bits_in c.args.base.now light)
    → WasBase c.args.board.now (g.R.Rows.entries c.args.rows.now) c.args.filled light (bits_in c.args.base.now light)
    → bits_in (set c.loop-light.base c.loop-light.light c.read_row.new.row) light ≡ base_bits c.args.board.now (light_at c.args.board.now light) (g.R.Rows.entries c.args.rows.now (length (light_at c.args.board.now light))) =
    λ light e but was. subst (λ n. bits_in (set c.loop-light.base c.loop-light.light c.read_row.new.row) n ≡ base_bits c.args.board.now (light_at c.args.board.now n) (g.R.Rows.entries c.args.rows.now (length (light_at c.args.board.now n)))) (sym e)
    (here_is ∙ k.ensures.bits (subst (IsRowBut c.args.board.now (g.R.Rows.entries c.loop-light.rows) c.args.word c.loop-light.light) (sym read) (subst (λ d. IsBaseBut c.args.board.now (light_at c.args.board.now c.loop-light.light) (d (length (light_at c.args.board.now c.loop-light.light))) c.args.word (bits_in c.loop-light.base c.loop-light.light)) (sym inv.same)
    (subst (λ bits. IsBaseBut c.args.board.now (light_at c.args.board.now c.loop-light.light) (g.R.Rows.entries c.args.rows.now (length (light_at c.args.board.now c.loop-light.light))) c.args.word bits) (sym (inv.later c.loop-light.light (omega arith)))
    (subst (λ n. IsBaseBut c.args.board.now (light_at c.args.board.now n) (g.R.Rows.entries c.args.rows.now (length (light_at c.args.board.now n))) c.args.word (bits_in c.args.base.now n)) e but))))
    (subst (λ bits. WasBase c.args.board.now (g.R.Rows.entries c.loop-light.rows) c.args.filled c.loop-light.light bits) (sym read) (subst (λ d. WasBase c.args.board.now d c.args.filled c.loop-light.light (bits_in c.loop-light.base c.loop-light.light)) (sym inv.same)
    (subst (WasBase c.args.board.now (g.R.Rows.entries c.args.rows.now) c.args.filled c.loop-light.light) (sym (inv.later c.loop-light.light (omega arith)))
    (subst (λ n. WasBase c.args.board.now (g.R.Rows.entries c.args.rows.now) c.args.filled n (bits_in c.args.base.now n)) e was))))
    ∙ ap (λ d. base_bits c.args.board.now (light_at c.args.board.now c.loop-light.light) (d (length (light_at c.args.board.now c.loop-light.light)))) inv.same) in
    record {
      same = k.ensures.entries ∙ inv.same;
      risen = omega (arith, inv.risen, k.ensures.risen);
      base = record {
        rows = omega (arith, inv.base.rows, length-set c.loop-light.base c.loop-light.light c.read_row.new.row);
        bits = λ light lt. elim (cases_eq light c.loop-light.light) [
          | inl e ↦ ap (λ n. length (bits_in (set c.loop-light.base c.loop-light.light c.read_row.new.row) n)) e ∙ wide ∙ ap (λ n. length (bits_in c.loop-light.base n)) (sym e) ∙ inv.base.bits light lt
          | inr n ↦ ap length (others light n) ∙ inv.base.bits light lt
        ];
      };
      later = λ light le. others light (λ e. omega (arith, le, e)) ∙ inv.later light (omega (arith, le));
      on = λ light lt m but was. elim (cases_eq light c.loop-light.light) [
        | inl e ↦ right light e but was
        | inr n ↦ others light n ∙ inv.on light (omega arith) m but was
      ];
      row_room = λ other. let kept = room_other c.loop-light.base c.loop-light.light within c.read_row.new.row c.index-base-light.result (omega (arith, k.ensures.room)) other in omega (arith, inv.row_room other, kept);
      off = λ light m.
          others light (λ e. both_ways (is_read c.args.board.now c.args.word (is_marked c.args.list.now.marks) light) m (ap (is_read c.args.board.now c.args.word (is_marked c.args.list.now.marks)) e ∙ sym c.is_read.ensures ∙ c.if-not-is_read.false))
          ∙ inv.off light m;
      spent = λ member has.
          let size : length (get_or c.loop-light.base c.loop-light.light c.index-base-light.result).bits ≡ length (g.R.Rows.entries c.args.rows.now (length (light_at c.args.board.now c.loop-light.light))) = ap length read ∙ inv.base.bits c.loop-light.light in_board in
          let whole : (length (light_at c.args.board.now c.loop-light.light) + 1) * chunks_of (length (get_or c.loop-light.base c.loop-light.light c.index-base-light.result).bits) ≡ cost_here c.args.board.now (g.R.Rows.entries c.args.rows.now) member c.loop-light.light =
          ap (λ n. (length (light_at c.args.board.now c.loop-light.light) + 1) * chunks_of n) size ∙ sym (cost_in c.args.board.now (g.R.Rows.entries c.args.rows.now) member c.loop-light.light (has c.loop-light.light in_board (sym c.is_read.ensures ∙ c.if-not-is_read.false))) in
          let more = cost_more c.args.board.now (g.R.Rows.entries c.args.rows.now) member c.loop-light.light in
          let spent : g.R.Rows.ticks c.read_row.new.rows ≤ g.R.Rows.ticks c.loop-light.rows + cost_here c.args.board.now (g.R.Rows.entries c.args.rows.now) member c.loop-light.light =
          subst (λ n. g.R.Rows.ticks c.read_row.new.rows ≤ g.R.Rows.ticks c.loop-light.rows + n) whole k.ensures.cost in
          let before = inv.spent member has in
          subst (λ n. g.R.Rows.ticks c.read_row.new.rows ≤ g.R.Rows.ticks c.args.rows.now + n) (sym more) (omega (arith, spent, before));
    }

pub returns-clause-cost : goal.returns-clause-cost
returns-clause-cost g c member has =
    let all = cost_all c.args.board.now (g.R.Rows.entries c.args.rows.now) member c.loop-light.light (omega (arith, c.loop-light-test.false, c.loop-light.auto.light-end, c.light_count-light-end.ensures)) in
    subst (λ n. g.R.Rows.ticks c.loop-light.rows ≤ g.R.Rows.ticks c.args.rows.now + n) all (c.loop-light.invariant.spent member has)
