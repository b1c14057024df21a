pub mod StepLemmas
pub mod ReaderLemmas
pub mod CountLemmas
pub mod ApartLemmas
pub mod ReadLemmas
