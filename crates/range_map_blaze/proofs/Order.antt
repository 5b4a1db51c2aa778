pub mod EndPairs
pub mod PairOrder
pub mod MapOrder
pub mod Hashes
