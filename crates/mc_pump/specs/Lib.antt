pub mod Stretches
pub mod Work
pub mod Counts
pub mod Unsent
pub mod Pumps
pub mod Rounds
pub mod Gathers
pub mod Wants
