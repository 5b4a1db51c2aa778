pub mod Combined
pub mod Gaps
pub mod Handle
pub mod Lends
pub mod Ordered
pub mod Status
pub mod Tables
pub mod Told
