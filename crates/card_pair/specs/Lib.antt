pub mod Answered
pub mod CardMachine
pub mod CentreMachine
pub mod Promise
