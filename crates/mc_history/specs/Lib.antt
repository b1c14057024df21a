pub mod Histories
pub mod Made
pub mod Named
pub mod Generations
