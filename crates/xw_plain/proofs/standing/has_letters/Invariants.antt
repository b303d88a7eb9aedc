use Rattle.std.proofs.Common.{ℕ, ◌<◌, get_or, []}
use Rattle.std.specs.Prelude.{IsTrue}
use Rattle.xw_feas.specs.Flags.{set_has}
use Rattle.xw_feas.specs.Choices.{choices}
use Rattle.xw_plain.proofs.standing.has_letters.Given as goal

abbrev pub invariant-loop-position : goal.invariant-loop-position
invariant-loop-position l = (k : ℕ) → k < l.position → IsTrue (set_has l.letters (get_or l.cells k 0) (get_or (get_or (choices l.board l.bank.words l.cells) l.choice []) k 0))
