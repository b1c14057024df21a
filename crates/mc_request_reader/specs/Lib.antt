pub mod Hosts
pub mod Reader
pub mod Peeks
pub mod Steps
pub mod UnreadFields
pub mod ApartFields
pub mod ApartReaderFields
pub mod Reads
