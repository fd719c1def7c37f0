pub mod Stacks
pub mod Names
pub mod Standing
pub mod Stepping
pub mod Suiting
pub mod Keeping
pub mod Meanings
