pub mod Bits
pub mod Faults
pub mod Rows
pub mod Plans
pub mod Reading
pub mod Readers
pub mod Writing
