pub mod Plans
pub mod Worked
pub mod FewLooks
pub mod Descents
pub mod Found
