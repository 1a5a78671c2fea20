pub mod ZeroFill
pub mod Stamps
pub mod Records
pub mod Judging
pub mod Carried
pub mod Fields
pub mod Making
