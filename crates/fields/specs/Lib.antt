pub mod Fields
pub mod References
pub mod WorkingWords
pub mod WorkingFields
