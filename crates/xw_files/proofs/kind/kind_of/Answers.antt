use Rattle.std.proofs.Common.{rules}
use Rattle.xw_files.proofs.kind.kind_of.Goals as goal

pub returns-else-has_magic : goal.returns-else-has_magic
returns-else-has_magic c = search rules
