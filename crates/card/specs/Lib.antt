pub mod Face
pub mod Mail
pub mod MessageNumbers
pub mod Parts
pub mod Recorded
pub mod Arriving
pub mod Forwarding
pub mod Comparing
