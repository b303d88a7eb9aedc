use Rattle.std.proofs.Common.{length, Some, ap, ◌∙◌}
use Rattle.xw_net.proofs.base.read_changed.Goals as goal

pub returns-in-Some-clause-bits : goal.returns-in-Some-clause-bits
returns-in-Some-clause-bits g c but =
    c.read_chunk.ensures.bits (but c.in-Some.index (c.in-Some.ensures.found ∙ ap (λ n. Some (n, c.in-Some.index)) (c.len.ensures ∙ ap length c.light.ensures.cells)))
