pub mod Ranked
pub mod Counted
pub mod Bounds
pub mod Unsigned
pub mod Signed
pub mod Chars
pub mod UIntPlusOne
pub mod Newtypes
