-- What the proofs of the roll use: eight numbers a day later, and the seventeen sums that could leave their bounds.
pub mod DayLater
pub mod RollFits
