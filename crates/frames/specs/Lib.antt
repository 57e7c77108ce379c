pub mod Counting
pub mod Frames
