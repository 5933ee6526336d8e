-- The laws of the crate `answer`:
--   Outcomes   outcomes that differ
--   Cases      small cases
pub mod Outcomes
pub mod Cases
