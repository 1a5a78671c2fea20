pub mod Records
pub mod Headers
