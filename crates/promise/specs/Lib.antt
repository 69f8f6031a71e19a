pub mod Trace
pub mod Reading
pub mod Promise
pub mod Window
pub mod OwnBudget
pub mod PrintedRun
