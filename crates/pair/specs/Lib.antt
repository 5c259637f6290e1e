pub mod Names
pub mod Carrier
pub mod Claims
pub mod Centres
pub mod Wires
pub mod Numbered
