pub mod Refusals
pub mod Fields
pub mod Additions
pub mod Encodings
