pub mod Left
pub mod Owned
pub mod KeyRanges
