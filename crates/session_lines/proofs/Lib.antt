-- Laws of the bytes and the line that memory holds, of one byte fed and its answer, and of whole sessions: however the stream is cut, and document 01's.
pub mod Answers
pub mod Follows
pub mod Through
pub mod HoweverCut
pub mod Examples
