pub mod Sorted
pub mod WorkingBoard
pub mod WorkingScan
