pub mod Till
pub mod Cases
