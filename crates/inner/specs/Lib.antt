pub mod Places
pub mod Headers
pub mod Messages
pub mod Writing
