pub mod Canadian
pub mod WorkingCanadian
