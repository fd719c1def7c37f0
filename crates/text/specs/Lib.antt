pub mod Tokens
pub mod Brackets
pub mod Reads
pub mod WriteFaults
pub mod Sinks
pub mod Writes
pub mod Trips
