pub mod Legals
pub mod Forms
pub mod Decoding
pub mod Places
pub mod Coded
pub mod Texts
pub mod Chars
pub mod Examples
