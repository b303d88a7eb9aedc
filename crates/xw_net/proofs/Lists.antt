-- Lists of lights, and nets in which none waits.
pub mod QueuedLights
pub mod ListsOfLights
pub mod QuietNets
