pub mod Taken
pub mod Putting
pub mod Offering
