pub mod Lookups
pub mod RankOrder
