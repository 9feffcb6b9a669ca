pub mod Bytes
pub mod Digits
pub mod Shapes
pub mod Inverse
