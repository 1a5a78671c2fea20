pub mod Lengths
pub mod Plains
pub mod Writers
pub mod Examples
