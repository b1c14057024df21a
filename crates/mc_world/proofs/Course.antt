-- A course: a world from its opening on.
pub mod OpeningPartLemmas
pub mod WorldOpeningLemmas
pub mod CourseLemmas
pub mod OutputLemmas
pub mod GenerationStayLemmas
pub mod NothingBeforeLemmas
pub mod DoneLemmas
pub mod GrowLemmas
pub mod JoinLemmas
pub mod LearnLemmas
pub mod CutLemmas
pub mod RestartLemmas
pub mod HomeLemmas
pub mod RunLemmas
pub mod StepLemmas
pub mod OpeningLemmas
