pub mod Opens
pub mod Hold
pub mod HoldCalls
pub mod HoldCanadian
