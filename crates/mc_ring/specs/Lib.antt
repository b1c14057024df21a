pub mod Points
pub mod Owners
pub mod Rings
pub mod Refusals
