pub mod WorkingRules
pub mod WorkingJudged
