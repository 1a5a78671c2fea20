pub mod Utf8
pub mod Chars
pub mod WorkingUtf8
