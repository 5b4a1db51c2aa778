pub mod Paints
pub mod Neighbours
pub mod Cuts
pub mod Pairs
pub mod Walks
pub mod Sweeping
pub mod Fills
mod Words
