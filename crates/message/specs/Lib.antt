pub mod Root
pub mod WorkingJudged
pub mod WorkingMessage
