pub mod OwnerLemmas
pub mod PairLemmas
pub mod ShownLemmas
pub mod RingLemmas
pub mod HashLemmas
