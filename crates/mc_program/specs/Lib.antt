pub mod Admins
pub mod Logs
pub mod Sizes
pub mod Sockets
pub mod Statuses
pub mod Tickers
