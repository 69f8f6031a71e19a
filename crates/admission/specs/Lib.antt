pub mod Start
pub mod Ranks
