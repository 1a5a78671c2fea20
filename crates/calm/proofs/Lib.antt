pub mod Marks
pub mod Calms
