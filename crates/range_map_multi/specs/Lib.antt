pub mod ManyJoins
pub mod ManyLaws
pub mod OnAll
pub mod Parts
