pub mod Cidr
pub mod Entry
pub mod Name
pub mod Paths
pub mod Rank
pub mod SamePath
pub mod Table
