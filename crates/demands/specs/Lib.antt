pub mod Calls
pub mod Message
pub mod Board
pub mod Numbers
pub mod Runs
pub mod Demands
pub mod StandIns
