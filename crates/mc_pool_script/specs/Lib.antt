pub mod Commands
pub mod PoolLines
pub mod PoolScripts
pub mod Kinds
pub mod Stores
pub mod Plays
pub mod Printed
pub mod PoolTexts
