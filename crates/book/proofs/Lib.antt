pub mod Eights
pub mod Marks
pub mod Books
pub mod Histories
pub mod Laws
