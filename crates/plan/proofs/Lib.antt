pub mod Afters
pub mod Takes
pub mod Fills
pub mod Handed
