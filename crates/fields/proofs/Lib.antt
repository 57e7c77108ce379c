pub mod Algebra
pub mod Answering
pub mod Domains
