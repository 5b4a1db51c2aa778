pub mod Asked
pub mod Given
pub mod Applied
pub mod Pieces
pub mod ByKeys
