pub mod MonthLaws
pub mod DateLaws
pub mod TextLaws
