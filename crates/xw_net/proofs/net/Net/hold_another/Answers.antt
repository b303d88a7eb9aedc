use Rattle.std.proofs.Common.{◌≡◌, length, refl, ap, arith}
use Rattle.std.proofs.lemmas.List.{with_items_is}
use Rattle.std.proofs.lemmas.Option.{slice_get_read}
use Rattle.xw_net.specs.Nets.{bits_at, bits_for}
use Rattle.xw_net.proofs.net.Net.hold_another.Goals as goal

pub returns-clause-finds : goal.returns-clause-finds
returns-clause-finds g c few =
    let net = c.args.self.now in
    let k = c.find_support in
    let row_is : bits_for net c.args.here.light ≡ c.index-row.result.now.bits = ap bits_at (slice_get_read net.rows.items (length net.rows.items) c.args.here.light c.index-row.result.now refl c.requires.light c.index-row.ensures) in
    let held_is = with_items_is net.held k.new.held (omega (arith, k.ensures.held, c.deref_mut.ensures.len)) in
    let restart_is = with_items_is net.restart k.new.restart (omega (arith, k.ensures.restart, c.deref_mut-2.ensures.len)) in
    rw (row_is, held_is, restart_is, ← c.deref_mut.ensures.value, ← c.deref_mut-2.ensures.value) (k.ensures.finds (rw row_is at few))
