pub mod Rows
pub mod Locals
pub mod ParameterRows
pub mod Uris
