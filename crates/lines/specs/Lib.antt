-- The definitions of the crate `lines`.
-- Believed:
--   Sizes       standard monomials, terms and lines
--   Terms       terms as numbers
-- Inner contracts:
--   LineTerms   the terms of lines of the code
--   Bases       a basis of the code
--   InlineLists the places of a list that lies in its value
--   Stored      a list of lines of which one is stored
pub mod Sizes
pub mod Terms
pub mod LineTerms
pub mod Bases
pub mod InlineLists
pub mod Stored
