-- The theorems of the crate `acceptance`, besides those of its functions:
--   WholeChecks       the outcome of checks 12 to 15, from the answers of the parts that do them
--   SmallestRefused   the smallest line of which a check speaks, refused
--   WholeOutcome      what the outcome of checks 12 to 15 says of the lines
--   CheckedSound      a basis of the code that passed checks 2 to 11 is sound
--   LaterChecks       the outcome of checks 12 to 15 with those that come after them
pub mod WholeOutcome
pub mod CheckedSound
pub mod SmallestRefused
pub mod WholeChecks
pub mod LaterChecks
