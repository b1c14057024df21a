-- A server of a pool, the links to it and its ways.
pub mod CountLemmas
pub mod EachLemmas
pub mod SiteLemmas
pub mod MoveLemmas
pub mod LossLemmas
pub mod LateLemmas
pub mod TurnLemmas
pub mod TagLemmas
pub mod ServingLemmas
pub mod WayLemmas
