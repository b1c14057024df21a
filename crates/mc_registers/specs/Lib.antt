pub mod Registers
pub mod Examples
pub mod Laws
pub mod Guarantees
pub mod Recache
pub mod Restarts
pub mod Records
