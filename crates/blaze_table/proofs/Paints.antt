pub mod Inside
pub mod Clearing
pub mod Inner
pub mod Placing
pub mod Widened
pub mod Composed
