pub mod Splices
pub mod Kept
pub mod Painted
