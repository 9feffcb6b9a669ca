-- What the proof of `is_listed` uses: the kind by its place in the table.
pub mod Listed
