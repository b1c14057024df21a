pub mod LinkState
pub mod Turns
pub mod LinkFields
