pub mod Rows
pub mod Loads
pub mod Saves
pub mod Saved
pub mod Concats
