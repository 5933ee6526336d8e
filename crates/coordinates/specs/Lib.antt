-- The definitions of the crate `coordinates`.
-- Inner contracts:
--   Vectors   vectors of residues that the code holds, and as lists of residues
pub mod Vectors
