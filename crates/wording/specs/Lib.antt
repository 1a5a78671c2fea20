pub mod Text
pub mod WorkingGiven
pub mod WorkingPen
