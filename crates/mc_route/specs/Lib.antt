pub mod Routes
pub mod Looks
pub mod Joins
pub mod Losses
pub mod Rooms
pub mod Kept
pub mod Examples
