pub mod Calls
pub mod Distances
pub mod Promises
pub mod Sets
pub mod Verdicts
pub mod Working
