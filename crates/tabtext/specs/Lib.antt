-- The definitions of the crate `tabtext`.
-- Believed:
--   Sizes     the size of a text
--   Text      the five line kinds, their bytes, and the form of a line
-- Inner contracts:
--   Readers   a number, a row of exponents, a term, a line, read off the front of a list of bytes
--   Answers   what the readers' answers say of a text
--   Printed   the lines that values of the code are printed as
--   Sinks     what a sink has after bytes are put into it
pub mod Sizes
pub mod Text
pub mod Readers
pub mod Answers
pub mod Printed
pub mod Sinks
