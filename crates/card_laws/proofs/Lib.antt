pub mod Leading
pub mod Compared
