-- The proxies of clients, and what is a proxy's own.
pub mod OrderLemmas
pub mod CommandLemmas
pub mod OwnLemmas
