pub mod Limits
pub mod Meanings
pub mod Forms
pub mod Rows
pub mod Entries
pub mod Views
