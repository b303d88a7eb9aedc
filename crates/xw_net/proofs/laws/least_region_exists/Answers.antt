use Rattle.xw_net.proofs.Costs.LeastRegion.{least_region_exists}
use Rattle.xw_net.proofs.laws.least_region_exists.Goals as goal

pub returns : goal.returns
returns c = least_region_exists
