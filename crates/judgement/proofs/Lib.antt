pub mod Codes
pub mod Alerts
pub mod Bodies
pub mod Answers
