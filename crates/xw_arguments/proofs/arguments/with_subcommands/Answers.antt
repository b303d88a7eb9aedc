use Rattle.xw_arguments.proofs.Commands.{subcommands_shape, subcommands_local}
use Rattle.xw_arguments.proofs.arguments.with_subcommands.Goals as goal

pub returns-clause-shape : goal.returns-clause-shape
returns-clause-shape c = subcommands_shape c.subcommands.result c.args.command c.args.subcommands.items c.requires.local c.subcommands.ensures

pub returns-clause-local : goal.returns-clause-local
returns-clause-local c = subcommands_local c.subcommands.result c.args.command c.args.subcommands.items c.requires.local c.subcommands.ensures
