pub mod Lines
pub mod Again
