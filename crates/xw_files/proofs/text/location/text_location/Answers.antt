use Rattle.std.proofs.Common.{rules}
use Rattle.xw_files.proofs.text.location.text_location.Goals as goal

pub returns-then-ne : goal.returns-then-ne
returns-then-ne c = search rules

pub returns : goal.returns
returns c = search rules
