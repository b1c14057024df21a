pub mod Costs
pub mod Deadlines
