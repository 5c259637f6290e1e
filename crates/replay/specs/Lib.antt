pub mod Rules
pub mod Watched
pub mod Centres
