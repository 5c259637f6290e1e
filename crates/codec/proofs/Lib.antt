pub mod Stated
pub mod Same
pub mod Contents
pub mod Type22
pub mod Type2
pub mod Alternatives
pub mod Bodies
pub mod Instance
