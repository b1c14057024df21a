-- A pool, and its commands.
pub mod ProxyLemmas
pub mod AccountLemmas
pub mod PoolLemmas
pub mod AppliesLemmas
pub mod ApplyingLemmas
pub mod RefusalLemmas
pub mod StillLemmas
pub mod CommandLemmas
