pub mod Standing
pub mod Uses
pub mod Lawful
pub mod Sizes
pub mod Unfolding
pub mod TypeCount
pub mod Theorems
