-- The definitions of the crate `fglm`.
-- Inner contracts:
--   RowState       the rows that the code holds, as lists of residues
--   Elimination    row elimination over these rows
--   Steps          what the steps of the elimination give
--   Found          the lines and the standard monomials of a lex basis
--   WrittenLines   the line of a monomial that depends on standard monomials
--   ImageRows      the row of a monomial, from those of the standard monomials
--   Enumerable     what the enumeration asks of the lines that it converts
pub mod RowState
pub mod Elimination
pub mod Steps
pub mod Found
pub mod WrittenLines
pub mod ImageRows
pub mod Enumerable
