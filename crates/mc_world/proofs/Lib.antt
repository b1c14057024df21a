pub mod Homes
pub mod SiteEvents
pub mod PoolEvents
pub mod Log
pub mod Course
pub mod Drain
