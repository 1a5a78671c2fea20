pub mod Packing
pub mod Unpacked
