pub mod Task
pub mod Joined
pub mod JoinedLemmas
pub mod Lists
pub mod Ranges
