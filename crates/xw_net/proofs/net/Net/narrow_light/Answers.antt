use Rattle.std.proofs.Common.{◌≡◌, ◌<◌, ℕ, false, length, set, sym, ap, ◌∙◌, subst, inl, inr, arith}
use Rattle.std.specs.Prelude.{None, Some}
use Rattle.std.proofs.lemmas.Bool.{cases_eq}
use Rattle.std.proofs.lemmas.List.{length-set, get_or-set_same, get_or-set_other}
use Rattle.xw_bits.specs.Bits.{RowOfBits}
use Rattle.xw_feas.specs.Board.{is_wholly_entered, light_at}
use Rattle.xw_net.specs.Base.{WasBase}
use Rattle.xw_net.specs.Begin.{IsNarrowedRow}
use Rattle.xw_net.specs.Spread.{bits_in}
use Rattle.xw_net.proofs.BaseRows.WrittenRows.{bits_read, bits_here, bits_other, room_other}
use Rattle.xw_net.proofs.Levels.KeptRows.{changes_kept}
use Rattle.xw_net.proofs.net.Net.narrow_light.Goals as goal

pub returns-clause-back : goal.returns-clause-back
returns-clause-back g c before way =
    let old = c.args.self.now in
    let light = c.args.light in
    let sized = c.requires.sized in
    let in_base : light < length old.base.items = omega (arith, c.requires.light, sized.chained.base, old.base.ok.0) in
    let in_rows : light < length old.rows.items = omega (arith, c.requires.light, sized.shaped.rows, old.rows.ok.0) in
    let base' = c.read_row.new.row in
    let row' = c.narrow.new.row in
    let was_row = ap (λ (r : RowOfBits). length r.bits) c.index_mut-2.ensures.value ∙ ap length (bits_read old.rows.items light in_rows c.index_mut-2.result.now) in
    let read_base = ap (λ (r : RowOfBits). r.bits) c.index.ensures ∙ bits_read old.base.items light in_base c.index.result.now in
    let read_rows = ap (λ (r : RowOfBits). r.bits) c.index-2.ensures ∙ bits_read old.rows.items light in_rows c.index-2.result.now in
    let was_base = ap (λ (r : RowOfBits). length r.bits) c.index_mut.ensures.value ∙ ap length (bits_read old.base.items light in_base c.index_mut.result.now) in
    record {
      rows = changes_kept c.keep_row-2.new.kept.items old.rows.items (set old.rows.items light row') before.rows.items light c.in_ok-keep_row-2.ensures.has (length-set old.rows.items light row')
          (ap length (bits_here old.rows.items light in_rows row') ∙ c.narrow.ensures.narrowed.len ∙ was_row) (λ other apart. bits_other old.rows.items light in_rows row' other apart)
          (c.keep_row-2.ensures.back old.rows.items before.rows.items in_rows read_rows way.rows);
      base = changes_kept c.keep_row.new.kept.items old.base.items (set old.base.items light base') before.base.items light c.in_ok-keep_row.ensures.has (length-set old.base.items light base')
          (ap length (bits_here old.base.items light in_base base') ∙ c.read_row.ensures.len ∙ was_base) (λ other apart. bits_other old.base.items light in_base base' other apart)
          (c.keep_row.ensures.back old.base.items before.base.items in_base read_base way.base);
      letters = way.letters;
      entered = way.entered;
      as_many_letters = way.as_many_letters;
      as_many_flags = way.as_many_flags;
      held = way.held;
      restart = way.restart;
    }

pub returns-clause-sized : goal.returns-clause-sized
returns-clause-sized g c =
    let old = c.args.self.now in
    let light = c.args.light in
    let sized = c.requires.sized in
    let in_base : light < length old.base.items = omega (arith, c.requires.light, sized.chained.base, old.base.ok.0) in
    let in_rows : light < length old.rows.items = omega (arith, c.requires.light, sized.shaped.rows, old.rows.ok.0) in
    let base' = c.read_row.new.row in
    let was_base = ap (λ (r : RowOfBits). length r.bits) c.index_mut.ensures.value ∙ ap length (bits_read old.base.items light in_base c.index_mut.result.now) in
    let row' = c.narrow.new.row in
    let was_row = ap (λ (r : RowOfBits). length r.bits) c.index_mut-2.ensures.value ∙ ap length (bits_read old.rows.items light in_rows c.index_mut-2.result.now) in
    let new_row : length (bits_in (set old.rows.items light row') light) ≡ length (bits_in old.rows.items light) = ap length (bits_here old.rows.items light in_rows row') ∙ c.narrow.ensures.narrowed.len ∙ was_row in
    let new_base : length (bits_in (set old.base.items light base') light) ≡ length (bits_in old.base.items light) = ap length (bits_here old.base.items light in_base base') ∙ c.read_row.ensures.len ∙ was_base in
    record {
      shaped = record {
        few_cells = sized.shaped.few_cells;
        rows = sized.shaped.rows;
        entered = sized.shaped.entered;
        letters = sized.shaped.letters;
        held = sized.shaped.held;
        restart = sized.shaped.restart;
        pending = sized.shaped.pending;
        queue = sized.shaped.queue;
      };
      chained = record { base = sized.chained.base; chain = sized.chained.chain };
      bits = λ other lt. elim (cases_eq other light) [
        | inl e ↦ ap (λ n. length (bits_in (set old.rows.items light row') n)) e ∙ new_row ∙ ap (λ n. length (bits_in old.rows.items n)) (sym e) ∙ sized.bits other lt
        | inr apart ↦ ap length (bits_other old.rows.items light in_rows row' other apart) ∙ sized.bits other lt
      ];
      base = record {
        rows = omega (arith, sized.base.rows, length-set old.base.items light base');
        bits = λ other lt. elim (cases_eq other light) [
          | inl e ↦ ap (λ n. length (bits_in (set old.base.items light base') n)) e ∙ new_base ∙ ap (λ n. length (bits_in old.base.items n)) (sym e) ∙ sized.base.bits other lt
          | inr apart ↦ ap length (bits_other old.base.items light in_base base' other apart) ∙ sized.base.bits other lt
        ];
      };
    }

pub returns-clause-room : goal.returns-clause-room
returns-clause-room g c =
    let old = c.args.self.now in
    let light = c.args.light in
    let in_base : light < length old.base.items = omega (arith, c.requires.light, c.requires.sized.chained.base, old.base.ok.0) in
    let in_rows : light < length old.rows.items = omega (arith, c.requires.light, c.requires.sized.shaped.rows, old.rows.ok.0) in
    record {
      rows = λ other. room_other old.rows.items light in_rows c.narrow.new.row c.index_mut-2.result.now
          (omega (arith, ap (λ (r : RowOfBits). r.room) c.index_mut-2.ensures.value, c.narrow.ensures.room)) other;
      base = λ other. room_other old.base.items light in_base c.read_row.new.row c.index_mut.result.now
          (omega (arith, ap (λ (r : RowOfBits). r.room) c.index_mut.ensures.value, c.read_row.ensures.room)) other;
    }

none_found : (word : ℕ × ℕ) → ¬ (None ≡ Some word)
none_found word found = cc

pub returns-clause-here : goal.returns-clause-here
returns-clause-here g c =
    let old = c.args.self.now in
    let light = c.args.light in
    let board = c.args.board.now in
    let sized = c.requires.sized in
    let in_base : light < length old.base.items = omega (arith, c.requires.light, sized.chained.base, old.base.ok.0) in
    let in_flags : light < length old.entered.items = omega (arith, c.requires.light, sized.shaped.entered, old.entered.ok.0) in
    let base' = c.read_row.new.row in
    let in_rows : light < length old.rows.items = omega (arith, c.requires.light, sized.shaped.rows, old.rows.ok.0) in
    let row' = c.narrow.new.row in
    let row_was = ap (λ (r : RowOfBits). r.bits) c.index_mut-2.ensures.value ∙ bits_read old.rows.items light in_rows c.index_mut-2.result.now in
    let in_set : light < length (set old.base.items light base') = omega (arith, in_base, length-set old.base.items light base') in
    let base_is = ap (λ (r : RowOfBits). r.bits) c.index-3.ensures ∙ bits_read (set old.base.items light base') light in_set c.index-3.result.now in
    let len_is = c.len.ensures ∙ ap length c.light-cells.ensures.cells in
    let was = ap (λ (r : RowOfBits). r.bits) c.index_mut.ensures.value ∙ bits_read old.base.items light in_base c.index_mut.result.now in
    record {
      base = λ was_base. bits_here old.base.items light in_base base' ∙ c.read_row.ensures.bits (λ index found. absurd (none_found (length (light_at board light), index) found)) (subst (WasBase board (g.R.Rows.entries c.args.rows.now) c.args.filled light) (sym was) was_base);
      rows = subst (λ bits. IsNarrowedRow None (length (light_at board light)) (bits_in old.rows.items light) (bits_in (set old.base.items light base') light) bits) (sym (bits_here old.rows.items light in_rows row'))
          (subst (λ base. IsNarrowedRow None (length (light_at board light)) (bits_in old.rows.items light) base row'.bits) base_is
          (subst (λ bits. IsNarrowedRow None (length (light_at board light)) bits c.index-3.result.now.bits row'.bits) row_was
          (subst (λ len. IsNarrowedRow None len c.index_mut-2.result.now.bits c.index-3.result.now.bits row'.bits) len_is c.narrow.ensures.narrowed)));
      flag = get_or-set_same old.entered.items light c.has_all_entries.result false in_flags ∙ c.has_all_entries.ensures ∙ ap (is_wholly_entered board) c.light-cells.ensures.cells;
    }

pub returns-clause-others : goal.returns-clause-others
returns-clause-others g c other apart =
    let old = c.args.self.now in
    let light = c.args.light in
    let in_base : light < length old.base.items = omega (arith, c.requires.light, c.requires.sized.chained.base, old.base.ok.0) in
    let in_rows : light < length old.rows.items = omega (arith, c.requires.light, c.requires.sized.shaped.rows, old.rows.ok.0) in
    record {
      rows = bits_other old.rows.items light in_rows c.narrow.new.row other apart;
      base = bits_other old.base.items light in_base c.read_row.new.row other apart;
      flag = get_or-set_other old.entered.items light other c.has_all_entries.result false apart;
    }
