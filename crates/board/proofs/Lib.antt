pub mod Boards
pub mod Finds
pub mod Answers
pub mod Fills
pub mod Keeps
pub mod Demand3
