-- The definitions of the crate `staircase`.
-- Believed:
--   TermLines     the lines of a text, as lines of polynomials
--   Conditions    what checks 12, 14 and 15 speak of
-- Inner contracts:
--   StoredLines   those of a basis of the code
--   LeastNumber   the smallest number that has a property
--   Sound         what checks 2 to 11 leave true of a basis of the code
--   Places        check 12 by the places of the arrays
--   Leads         leading monomials, their multiples, and what is next in lex among the others
--   Listed        the list of the irreducible monomials, as the code holds it
--   Sorted        a list of monomials in rising grevlex order
pub mod TermLines
pub mod StoredLines
pub mod Conditions
pub mod LeastNumber
pub mod Sound
pub mod Leads
pub mod Listed
pub mod Sorted
pub mod Places
