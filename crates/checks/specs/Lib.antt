-- The definitions of the crate `checks`.
-- Believed:
--   Checks    checks 2 to 11 of document 01, line by line, in its order
-- Inner contracts:
--   Answers   the basis that a value of the code holds, and what the reader's answer says
pub mod Checks
pub mod Answers
