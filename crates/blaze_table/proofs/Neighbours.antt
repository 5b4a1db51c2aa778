pub mod Between
pub mod Holders
pub mod SeenInside
pub mod NextEntries
pub mod Growing
