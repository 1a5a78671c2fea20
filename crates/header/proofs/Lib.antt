pub mod Lengths
pub mod Locations
pub mod Times
pub mod Reading
pub mod Writing
pub mod WriteThenRead
pub mod ReadThenWrite
pub mod Examples
