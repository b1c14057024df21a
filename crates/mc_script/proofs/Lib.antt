pub mod AnswerLemmas
pub mod BlockLemmas
pub mod EscapeLemmas
pub mod HistoryLemmas
pub mod LineLemmas
pub mod OutputLemmas
pub mod ScriptLemmas
pub mod TableLemmas
