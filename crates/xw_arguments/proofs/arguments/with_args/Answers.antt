use Rattle.xw_arguments.proofs.Commands.{args_shape, args_local}
use Rattle.xw_arguments.proofs.arguments.with_args.Goals as goal

pub returns-clause-shape : goal.returns-clause-shape
returns-clause-shape c = args_shape c.args-2.result c.args.command c.args.args.items c.requires.local c.args-2.ensures

pub returns-clause-local : goal.returns-clause-local
returns-clause-local c = args_local c.args-2.result c.args.command c.args.args.items c.requires.local c.args-2.ensures
