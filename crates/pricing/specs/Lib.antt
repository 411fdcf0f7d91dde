pub mod Pricing
pub mod Tallies
