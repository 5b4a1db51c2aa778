pub mod PairLists
pub mod AtPairs
pub mod Keeping
pub mod PairLaws
pub mod Texts
pub mod KeySets
pub mod Lasts
