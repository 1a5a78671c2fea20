pub mod Sorts
pub mod Dues
pub mod Scans
pub mod Taken
pub mod Demand3
