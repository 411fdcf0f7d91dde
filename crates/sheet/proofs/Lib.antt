pub mod CodeLaws
pub mod Bytes
pub mod Rows
pub mod SheetLaws
pub mod ReadLaws
pub mod Places
