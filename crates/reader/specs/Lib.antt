pub mod WorkingPosition
