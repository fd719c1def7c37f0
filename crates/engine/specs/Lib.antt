pub mod Contents
pub mod View
pub mod Values
pub mod Stores
pub mod Acts
pub mod Limits
pub mod Choices
pub mod Runs
