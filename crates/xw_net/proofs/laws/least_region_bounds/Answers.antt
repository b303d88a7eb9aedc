use Rattle.xw_net.proofs.Costs.LeastRegion.{least_region_bounds}
use Rattle.xw_net.proofs.laws.least_region_bounds.Goals as goal

pub returns : goal.returns
returns c = least_region_bounds
