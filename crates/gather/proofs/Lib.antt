pub mod Leaves
pub mod Contents
pub mod Infos
pub mod Selects
pub mod Gathers
pub mod Passes
