pub mod Lists
pub mod Closing
pub mod Stepping
pub mod Safety
pub mod Unravelling
pub mod Determined
pub mod Theorems
