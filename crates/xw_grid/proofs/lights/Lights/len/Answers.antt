use Rattle.std.proofs.Common.{◌≡◌, length, ap, ◌∙◌, arith, rules}
use Rattle.xw_grid.specs.Light.{lights_of}
use Rattle.xw_grid.proofs.CountLemmas.{lights_are_few}
use Rattle.xw_grid.proofs.lights.Lights.len.Goals as goal

pub returns-clause-few : goal.returns-clause-few
returns-clause-few c =
    let kept = c.self.invariant in
    let same : c.len.result ≡ length c.self.inside.lights.items = search rules in
    let long : c.len.result ≡ length (lights_of kept.grid) = same ∙ ap (λ xs. length xs) kept.whole in
    omega (arith, long, lights_are_few kept.grid kept.is)

pub returns-clause-len : goal.returns-clause-len
returns-clause-len c = search rules
