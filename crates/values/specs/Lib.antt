pub mod Chars
pub mod Value
pub mod WorkingSteps
