pub mod Folds
pub mod Leaves
pub mod Infos
pub mod Locations
pub mod Alerts
