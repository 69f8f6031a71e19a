pub mod Grows
pub mod Least
pub mod Checked
pub mod Chains
pub mod Own
