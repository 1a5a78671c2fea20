pub mod Table
pub mod Canadian
