pub mod Reading
pub mod Document
pub mod Tables
pub mod Order
