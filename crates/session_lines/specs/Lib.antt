-- What the contracts cite: the session over its whole input, and the stream that comes in pieces; and that both are the same, however it is cut.
pub mod Session
pub mod Stream
pub mod HoweverCut
