-- What the proofs of a row's dates use: the comparisons as the code makes them.
pub mod Comparisons
