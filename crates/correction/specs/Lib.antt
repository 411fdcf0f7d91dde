pub mod Gaps
pub mod Errors
pub mod Walks
