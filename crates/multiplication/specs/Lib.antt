-- The definitions of the crate `multiplication`.
-- Inner contracts:
--   Rows          the rows of the products x_i·B_s, and what they make of coordinates
--   Tails         the row of minus the tail of a line
--   Passes        variables over which a product stays out of the list
--   Rules         the row that the code makes for x_i·B_s
--   RankedLists   the list of the irreducible monomials with its ranks, and the ranks of the products
--   Filling       what filling the rows asks, and what it gives
--   Criterion     whether the lines are a Groebner basis, and the rows
pub mod Rows
pub mod Tails
pub mod Passes
pub mod Rules
pub mod RankedLists
pub mod Filling
pub mod Criterion
