-- Words that are struck from one light.
use Rattle.std.proofs.Common.{ℕ, ap, ◌∙◌}
use Rattle.xw_net.specs.Steps.{IsStruckAt}
use Rattle.xw_net.specs.declared.net.Net.{Net}

pub struck_twice : (light : ℕ) (old mid new : Net) → IsStruckAt light old mid → IsStruckAt light mid new → IsStruckAt light old new
struck_twice light old mid new first second = record {
  rest = second.rest ∙ ap (λ (net : Net). record net { rows = new.rows; entered = new.entered; pending = new.pending }) first.rest;
  rows = λ other apart. second.rows other apart ∙ first.rows other apart;
  flags = λ other apart. second.flags other apart ∙ first.flags other apart;
  many = second.many ∙ first.many;
}
