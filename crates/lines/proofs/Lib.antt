pub mod Factors
pub mod Inversion
pub mod Joints
pub mod Levels
pub mod Packing
pub mod Rows
pub mod Steps
