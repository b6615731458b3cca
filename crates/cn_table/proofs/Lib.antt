pub mod Documents
pub mod ItemLoop
pub mod KeyLoop
pub mod KeyOrder
