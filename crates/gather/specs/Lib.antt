pub mod WorkingVisit
pub mod Read
pub mod WorkingRead
