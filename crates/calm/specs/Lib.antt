pub mod WorkingCalm
