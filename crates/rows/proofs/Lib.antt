pub mod Wanted
pub mod Alike
pub mod Same
