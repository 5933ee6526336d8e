-- The definitions of the crate `division`.
-- Inner contracts:
--   GrevlexPlace       the place of a monomial in grevlex order
--   CoefficientArray   polynomials as arrays of coefficients by places
--   Clearing           one step of the division, and all of them
--   PairRemainders     the remainders of S-polynomials
pub mod GrevlexPlace
pub mod CoefficientArray
pub mod Clearing
pub mod PairRemainders
