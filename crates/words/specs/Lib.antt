pub mod Calls
pub mod Examples
pub mod Plans
pub mod Records
pub mod Words
