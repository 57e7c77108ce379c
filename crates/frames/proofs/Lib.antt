pub mod Bytes
pub mod Counting
pub mod Slots
