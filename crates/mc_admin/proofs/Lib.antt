pub mod PageLemmas
pub mod InboxLemmas
pub mod HeadLemmas
