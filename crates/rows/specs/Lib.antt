pub mod Names
pub mod Events
pub mod Table
pub mod Engine
