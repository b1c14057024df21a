pub mod StretchLemmas
pub mod RoundLemmas
pub mod PumpLemmas
pub mod PendingLemmas
pub mod LinkLemmas
pub mod LawLemmas
