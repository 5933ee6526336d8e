-- The definitions of the crate `monomial`.
-- Believed:
--   Sizes           the largest number of variables and the largest exponent
--   Rows            monomials as rows of n exponents: products, degrees, powers
--   Orders          lex over a list of variables, and grevlex
--   Ordering        monomials as a structure, and the orders as relations
-- Inner contracts:
--   Quotients       quotients, least common multiples, divisibility, powers of a variable
--   Represented     the row that a value of the code holds
--   Combined        two monomials, combined exponent by exponent
--   FirstVariable   the first variable of a monomial
--   Least           the place with the least value
--   Ranks           ranks of monomials
pub mod Sizes
pub mod Rows
pub mod Quotients
pub mod Orders
pub mod Ordering
pub mod Represented
pub mod Combined
pub mod FirstVariable
pub mod Least
pub mod Ranks
