pub mod RouteLemmas
pub mod JoinLemmas
pub mod KeptLemmas
pub mod LookLemmas
pub mod LossLemmas
