pub mod Tables
pub mod Places
pub mod Choices
pub mod Examples
