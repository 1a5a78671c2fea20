pub mod Roots
pub mod Leaves
