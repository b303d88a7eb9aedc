use Rattle.std.proofs.Common.{◌∷◌, ◌<◌, length, subst, sym, arith}
use Rattle.std.specs.List.Sorted.{IsPermutation}
use Rattle.std.proofs.lemmas.List.Sorted.{IsPermutation-swap_remove}
use Rattle.xw_net.proofs.worklist.take_from.Goals as goal

pub returns-clause-taken : goal.returns-clause-taken
returns-clause-taken c =
    let left = c.swap_remove-light.ensures in
    let within : c.args.from < length c.args.lights.now.items = omega (arith, left.len) in
    subst (λ xs. IsPermutation c.args.lights.now.items (c.swap_remove-light.result ∷ xs)) (sym left.items)
    (IsPermutation-swap_remove c.args.lights.now.items c.args.from c.swap_remove-light.result within left.value)
