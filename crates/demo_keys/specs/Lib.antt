pub mod Addresses
pub mod Blocks
pub mod Dates
pub mod Weekday
