-- Regions of lights, and the ticks that an update spends there.
pub mod RegionIsClosed
pub mod SumsBelow
pub mod DueTicks
pub mod ClosedForStripping
pub mod CostsByLight
pub mod LeastRegion
pub mod BaseRowCosts
pub mod CostBounds
