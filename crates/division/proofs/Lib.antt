-- The theorems of the crate `division`.
-- Lines of the code:
--   LineTerms                                             the terms of a line by their places
--   StoredLines                                           lines of a basis that are read
-- Places in grevlex order:
--   Binomials                                             the numbers of monomials below a degree
--   GrevlexPlaces, PlaceSums                              the order of the places is grevlex; the sum that is the place
--   StoredExponent, StepDown                              the monomial at the place before
-- The division on an array of coefficients:
--   AddedTerms, AddedMultiples, LineMultiples             terms and multiples of lines that are added
--   KeptNormalForms, BasisSystem                          what the division keeps; a basis as a reduction system
--   MultipleCoefficients, ClearedMonomials, SweptArrays   one monomial after another, from the greatest down
-- Check 15:
--   PairDivision                                          the division of an S-polynomial
--   FailingPlaces, PairSearch                             the pairs in turn
--   LowPairs                                              after checks 12 to 14 least common multiples have degree at most n + 31
pub mod LineTerms
pub mod StoredLines
pub mod Binomials
pub mod GrevlexPlaces
pub mod PlaceSums
pub mod StoredExponent
pub mod StepDown
pub mod AddedTerms
pub mod AddedMultiples
pub mod LineMultiples
pub mod KeptNormalForms
pub mod BasisSystem
pub mod MultipleCoefficients
pub mod ClearedMonomials
pub mod SweptArrays
pub mod PairDivision
pub mod FailingPlaces
pub mod PairSearch
pub mod LowPairs
