pub mod ListLemmas
pub mod MistakeLemmas
pub mod NameLemmas
