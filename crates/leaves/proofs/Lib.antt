pub mod Trees
pub mod Reals
pub mod Places
pub mod Fits
