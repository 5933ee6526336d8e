-- The laws of the crate `monomial`:
--   Places         arrays of exponents and the rows that they hold
--   Filling        a value that is filled with a row from the front
--   Products       products, quotients, divisibility and least common multiples
--   Powers         powers of one variable
--   Variables      the variables as monomials of the code
--   OrderLaws      monomial orderings (001, definition 1.4), and what the theory asks of monomials
--   AnyOrder       what holds of every monomial ordering
--   Comparisons    two numbers compared, and what decides where they are equal
--   LexOrder       lex is a monomial ordering, for every ranking of the variables
--   GrevlexOrder   grevlex is a monomial ordering
--   LexSteps       lex, from the first variable of a list on
--   KeyDigits      numbers and their digits
--   RankOrder      the order of ranks is grevlex
--   RankPlaces     ranks and their places
--   RankSearch     the loop of `next_place`
--   Cases          comparisons that the documents name
pub mod Places
pub mod Filling
pub mod Products
pub mod Powers
pub mod Variables
pub mod OrderLaws
pub mod AnyOrder
pub mod Comparisons
pub mod LexOrder
pub mod GrevlexOrder
pub mod LexSteps
pub mod KeyDigits
pub mod RankOrder
pub mod RankPlaces
pub mod RankSearch
pub mod Cases
