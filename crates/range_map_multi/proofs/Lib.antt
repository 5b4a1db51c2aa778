pub mod AnsweredRows
pub mod Around
pub mod Differences
pub mod JoinsOfTwo
pub mod Many
pub mod OfTwo
pub mod Pickings
pub mod Placed
pub mod RowSegments
mod Words
