pub mod Codes
pub mod Sheet
pub mod Views
pub mod Lines
pub mod Faults
