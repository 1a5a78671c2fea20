pub mod Kept
pub mod Unread
