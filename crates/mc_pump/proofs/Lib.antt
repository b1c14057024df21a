pub mod StretchLemmas
pub mod PumpLemmas
pub mod RoundLemmas
pub mod LawLemmas
pub mod CountLemmas
pub mod UnsentLemmas
pub mod ReadLemmas
pub mod GatherLemmas
