pub mod Endings
pub mod Kinds
pub mod Printed
pub mod Runs
