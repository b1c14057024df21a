pub mod PointLemmas
pub mod AddressLemmas
pub mod PoolLemmas
pub mod KnownLemmas
pub mod PlayLemmas
pub mod PrintedLemmas
