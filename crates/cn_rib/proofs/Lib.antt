pub mod Keyed
pub mod Levels
pub mod Prefixes
pub mod Rows
pub mod PrefixMaps
pub mod Updates
pub mod Mapped
pub mod IdRoutes
