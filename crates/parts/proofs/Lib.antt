pub mod Periods
pub mod Asking
pub mod Padded
pub mod Has
pub mod AskedBack
pub mod Everys
pub mod Chunks
