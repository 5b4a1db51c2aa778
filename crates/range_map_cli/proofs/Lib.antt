pub mod Sessions
pub mod Contents
pub mod Counting
pub mod Edits
pub mod Stepping
pub mod Listing
pub mod Pieces
pub mod Operators
pub mod Equals
pub mod Paints
mod Words
