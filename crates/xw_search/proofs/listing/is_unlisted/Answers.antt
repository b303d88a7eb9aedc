use Rattle.std.proofs.Common.{rules}
use Rattle.xw_search.proofs.listing.is_unlisted.Goals as goal

pub returns-then-is_entered : goal.returns-then-is_entered
returns-then-is_entered g c = search rules
