pub mod Texts
pub mod Outcomes
pub mod Answers
pub mod Examples
