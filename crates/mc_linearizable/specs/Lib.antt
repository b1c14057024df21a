pub mod Linearizable
pub mod Clients
