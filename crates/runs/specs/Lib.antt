pub mod Standings
pub mod Advances
pub mod Calls
pub mod Promise
pub mod Programs
pub mod WrongEngines
pub mod Laws
