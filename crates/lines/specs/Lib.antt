pub mod Lines
pub mod Over
pub mod Packed
pub mod Level
pub mod Inverted
pub mod Stride
pub mod Junction
