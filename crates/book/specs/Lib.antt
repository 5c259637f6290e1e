pub mod Books
pub mod Histories
