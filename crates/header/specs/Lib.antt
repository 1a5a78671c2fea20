pub mod Body
pub mod Header
