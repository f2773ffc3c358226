pub mod Unwritten
pub mod ReadLayers
pub mod LayeredPlays
pub mod ReadScripted
pub mod Explained
pub mod Ended
