pub mod Extensions
pub mod Keys
pub mod Labels
pub mod Names
