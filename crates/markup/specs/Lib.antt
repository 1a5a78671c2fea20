pub mod Tree
pub mod Document
