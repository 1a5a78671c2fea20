pub mod Attributes
pub mod Tags
pub mod WorkingTree
