pub mod KeyOrder
pub mod NoFloats
pub mod NoDetailFloats
