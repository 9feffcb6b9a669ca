-- What the contracts cite: hexadecimal digits, numbers as bytes, frames and answers; and that reading and writing are inverse.
pub mod Hex
pub mod Number
pub mod Frame
pub mod Answer
pub mod Inverse
