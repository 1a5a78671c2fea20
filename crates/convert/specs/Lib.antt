pub mod Convert
pub mod WorkingConvert
