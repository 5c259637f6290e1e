pub mod Kept
pub mod Calls
pub mod Theorems
pub mod Fixed
pub mod Worked
