pub mod Goes
pub mod Joins
pub mod Decoding
pub mod Trees
pub mod Keeps
