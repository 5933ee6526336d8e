-- The definitions of the crate `groebner`, worded after documents 01 and 001.
-- Believed:
--   Polynomials          polynomials as lists of terms; sums and products
--   Lines                lists of monic lines with an order; divisibility by their leading monomials
--   Remainders           the remainder by a list of lines
--   Ideals               the ideal of a list of lines
--   Bases                Groebner bases, reduced Groebner bases, S-polynomials
--   Standard             zero-dimensional lists of lines; standard monomials
--   Systems              reduction systems (document 01: calculators), and what two of them share
-- Inner contracts:
--   Criteria             what checks 12 and 15 test of a list of lines
--   Conversions          what the walk finds: one line for each minimal monomial that is not standard
--   RisingLists          rising lists of monomials
--   Next                 the next monomial in lex, and all monomials in turn
--   MultiplicationRows   the products of the irreducible monomials with the variables, as coordinates
--   CoefficientRows      rows of coefficients
--   OrderedTails         lines with their tails in a given order
--   Enumeration          what the enumeration yields
pub mod Polynomials
pub mod Lines
pub mod Remainders
pub mod Ideals
pub mod Bases
pub mod Criteria
pub mod Standard
pub mod Conversions
pub mod RisingLists
pub mod Next
pub mod MultiplicationRows
pub mod CoefficientRows
pub mod OrderedTails
pub mod Enumeration
pub mod Systems
