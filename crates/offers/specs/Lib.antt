pub mod WorkingRecords
pub mod Offer
pub mod WorkingOffer
