pub mod Values
pub mod Substitution
pub mod States
pub mod Steps
pub mod StateTyping
pub mod Next
pub mod Structural
pub mod Laws
