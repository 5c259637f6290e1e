pub mod Sizes
pub mod Headings
pub mod Pdus
pub mod Encoding
pub mod Reading
pub mod Stripped
pub mod Writing
pub mod InPlace
