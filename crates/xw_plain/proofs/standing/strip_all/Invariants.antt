use Rattle.std.proofs.Common.{◌≡◌, ℕ, ◌<◌, false}
use Rattle.xw_feas.specs.Flags.{set_has, flag_at}
use Rattle.xw_feas.specs.Choices.{SupportsLight}
use Rattle.xw_feas.specs.Standing.{StripsUnsupported}
use Rattle.xw_plain.proofs.standing.strip_all.Given as goal

abbrev pub invariant-loop-light : goal.invariant-loop-light
invariant-loop-light l = record {
  strips : StripsUnsupported l.board l.bank.words l.initial.words l.initial.letters l.words l.letters l.removed;
  supported : l.removed ≡ false → (light : ℕ) → light < l.light → SupportsLight l.board l.bank.words (flag_at l.words) (set_has l.letters) light;
}
