pub mod WorkingLeaves
pub mod Names
pub mod WorkingParameters
pub mod WorkingSteps
