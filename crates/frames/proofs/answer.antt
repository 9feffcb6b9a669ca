-- What the proofs of answers use: an answer laid in a buffer.
pub mod Written
pub mod Puts
