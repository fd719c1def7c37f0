pub mod UpTo
pub mod Points
pub mod Asked
