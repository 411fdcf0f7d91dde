pub mod Topmost
pub mod Standing
pub mod Runs
pub mod Acts
