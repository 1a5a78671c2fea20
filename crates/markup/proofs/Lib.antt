pub mod Goes
pub mod Reading
pub mod Elements
pub mod Declarations
pub mod Figures
