-- The theorems of the crate `coordinates`, besides those of its functions:
--   FilledVectors   a vector that is filled, one entry after another
--   UnitRows        vectors that are 1 at one place and 0 elsewhere, by their coefficients
--   VectorEntries   lists of residues, from the entries of vectors of the code
--   UnitVectors     vectors that are one at one place, as lists of residues
--   SameVectors     whether two vectors are the same
--   FirstPlaces     the first place of a vector that is not zero
pub mod FilledVectors
pub mod UnitRows
pub mod VectorEntries
pub mod UnitVectors
pub mod SameVectors
pub mod FirstPlaces
