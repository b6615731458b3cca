pub mod Codes
pub mod PrefixSet
pub mod Tally
pub mod PrefixMaps
pub mod Updates
pub mod Interned
