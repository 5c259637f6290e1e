pub mod Desks
pub mod Promise
pub mod CardWords
