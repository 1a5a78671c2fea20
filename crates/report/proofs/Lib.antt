pub mod Choices
pub mod Lengths
pub mod Fits
pub mod Fronts
pub mod Examples
