pub mod DateParts
pub mod Dates
pub mod Months
pub mod Weekdays
