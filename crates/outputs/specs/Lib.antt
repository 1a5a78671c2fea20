pub mod Outputs
pub mod WorkingOutputs
