pub mod CellLemmas
pub mod PlainLights
pub mod StepLemmas
pub mod PuzLemmas
pub mod TextLemmas
