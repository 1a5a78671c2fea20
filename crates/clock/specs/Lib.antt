pub mod Calendar
pub mod Time
pub mod Written
pub mod Period
pub mod Stamp
pub mod Figures
