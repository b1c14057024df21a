pub mod SettledLemmas
pub mod BindingLemmas
pub mod ListLemmas
pub mod ListingLemmas
pub mod ReadyLemmas
pub mod BufferLemmas
