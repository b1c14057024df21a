-- Drains, and when a world is quiet.
pub mod QuietLinkLemmas
pub mod QuietSessionLemmas
pub mod QuietLemmas
pub mod WorkLemmas
pub mod LessLemmas
pub mod DrainLemmas
pub mod RestLemmas
pub mod RoundLemmas
pub mod EndLemmas
pub mod StandLemmas
