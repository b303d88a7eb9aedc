use Rattle.std.proofs.Common.{Bool, false, List, length, get_or, refl, sym, ap, ◌∙◌, arith}
use Rattle.std.proofs.lemmas.List.{with_items_is}
use Rattle.xw_net.proofs.Nets.CopiedNets.{rows_are, copied_is_copy}
use Rattle.xw_net.proofs.net.Net.copy_from.Goals as goal

pub returns-clause-copied : goal.returns-clause-copied
returns-clause-copied c =
    let net = c.args.net.now in
    let old = c.args.self.now in
    let many = c.len-count.ensures.len in
    let rows = with_items_is old.rows c.copy_rows.new.rows (omega (arith, c.copy_rows.auto.rows, c.deref_mut.ensures.len)) in
    let base = with_items_is old.base c.copy_rows-2.new.rows (omega (arith, c.copy_rows-2.auto.rows, c.deref_mut-2.ensures.len)) in
    let entered = with_items_is old.entered c.copy_flags.new.flags (omega (arith, c.copy_flags.auto.flags, c.deref_mut-3.ensures.len)) in
    let letters = with_items_is old.letters c.copy_from_slice.new.self (omega (arith, c.copy_from_slice.ensures.len, c.as_mut_slice.ensures.len)) in
    let held = with_items_is old.held c.copy_from_slice-2.new.self (omega (arith, c.copy_from_slice-2.ensures.len, c.as_mut_slice-2.ensures.len)) in
    let restart = with_items_is old.restart c.copy_from_slice-3.new.self (omega (arith, c.copy_from_slice-3.ensures.len, c.as_mut_slice-3.ensures.len)) in
    copied_is_copy c.args.lights.now net old _ c.requires record {
      rows = rows_are many c.deref.ensures.value c.deref_mut.ensures.value (sym rows) c.copy_rows.ensures;
      base = rows_are many c.deref-2.ensures.value c.deref_mut-2.ensures.value (sym base) c.copy_rows-2.ensures;
      entered = λ light lt. ap (λ (is : List Bool). get_or is light false) entered ∙ c.copy_flags.ensures.done light (omega (arith, lt, many)) ∙ ap (λ (is : List Bool). get_or is light false) c.deref-3.ensures.value;
      entered_left = λ light beyond. ap (λ (is : List Bool). get_or is light false) entered ∙ c.copy_flags.ensures.left light (omega (arith, beyond, many)) ∙ ap (λ (is : List Bool). get_or is light false) c.deref_mut-3.ensures.value;
      entered_long = ap (λ (is : List Bool). length is) entered ∙ c.copy_flags.auto.flags ∙ ap (λ (is : List Bool). length is) c.deref_mut-3.ensures.value;
      letters = letters ∙ c.copy_from_slice.ensures.after ∙ c.deref-4.ensures.value;
      held = held ∙ c.copy_from_slice-2.ensures.after ∙ c.deref-5.ensures.value;
      restart = restart ∙ c.copy_from_slice-3.ensures.after ∙ c.deref-6.ensures.value;
      rest = refl;
    }
