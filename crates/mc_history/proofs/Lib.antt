pub mod MadeLemmas
pub mod RefusalLemmas
pub mod GenerationLemmas
pub mod NamedLemmas
pub mod OutcomeLemmas
pub mod GoodLemmas
