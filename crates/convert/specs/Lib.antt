-- The definitions of the crate `convert`.
-- Believed:
--   Written    the output for a lex basis and its standard monomials
--   Outcome    what a text and an output of a given room come to
--   Contract   the user's three demands
-- Inner contracts:
--   LexText    the text of a lex basis of the code
--   Finished   the conversion of a basis that passed checks 2 to 15, and check 16
pub mod Written
pub mod Outcome
pub mod Contract
pub mod LexText
pub mod Finished
