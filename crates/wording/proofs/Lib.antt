pub mod Pens
pub mod Spells
pub mod Cuts
pub mod Allotments
pub mod Texts
pub mod Examples
pub mod Legals
