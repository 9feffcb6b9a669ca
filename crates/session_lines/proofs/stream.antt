-- What the proofs of the stream use: the line that is held, and each way a turn goes.
pub mod Held
pub mod Steps
