pub mod Originator
pub mod Parts
pub mod WorkingAsked
