pub mod Marking
pub mod Sharers
pub mod Searches
pub mod Tries
pub mod Pairs
pub mod Lacking
pub mod Verdict
