use Rattle.std.proofs.Common.{◌≡◌, drop}
use Rattle.xw_commands.specs.Names.{by_name}
use Rattle.xw_commands.specs.Reading.{lookup}
use Rattle.xw_commands.proofs.line.named.Given as goal

abbrev pub invariant-loop-value : goal.invariant-loop-value
invariant-loop-value g l = lookup (by_name g.T.Named.name l.values) l.word ≡ lookup (by_name g.T.Named.name (drop l.value-index l.values)) l.word
