pub mod Leading
pub mod Quick
