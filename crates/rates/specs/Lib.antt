pub mod ArbitratedDays
pub mod Errors
pub mod Horizons
pub mod Layers
pub mod Meanings
pub mod Publishing
pub mod RateBounds
pub mod Tables
