pub mod Spellings
pub mod SpelledPieces
pub mod LentStores
pub mod NextReply
pub mod ReplyForms
pub mod MetaForms
pub mod Examples
