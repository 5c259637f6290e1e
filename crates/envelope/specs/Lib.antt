pub mod Numbers
pub mod Envelopes
pub mod Strings
pub mod Examples
