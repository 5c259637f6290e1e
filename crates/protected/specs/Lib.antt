pub mod Bodies
pub mod Border
pub mod Sending
