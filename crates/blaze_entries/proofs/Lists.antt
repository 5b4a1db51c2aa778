pub mod Ending
pub mod Glued
pub mod Indexed
pub mod Orders
pub mod Pushed
pub mod UnitLaws
