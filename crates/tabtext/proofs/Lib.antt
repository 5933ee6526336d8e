-- The laws of the crate `tabtext`:
--   Steps           readers in sequence
--   Places          bytes, letters and digits at a place of a text
--   Words           bytes, words and order words: printing and reading undo each other
--   Numbers         numbers: likewise
--   Parted          fields that are parted by a separator
--   Rows            exponents, rows and terms: printing and reading undo each other
--   Fields          fields up to LF: likewise
--   LineTexts       the bytes of a line with its LF, by its kind
--   LineKinds       the five kinds of line: printing and reading undo each other
--   FirstWord       the first word of a line decides its kind
--   Lines           lines: likewise; the form of a line, and that it is unique
--   NumberLoop      the loop of `read_number`
--   OrderLoop       the loop of `read_order`
--   RowLoop         the loop of `read_exponents`
--   FieldLoop       the loop of `read_terms` and of `read_rows`
--   Sequences       answers of readers in sequence
--   Found           the record of the line at a place where the word of its kind stands
--   Records         what the answer of `read_record` says of the text
--   Cases           lines of document 01 and of its edges
--   Decimal         numbers as their digits
--   Writing         bytes put into a sink, part by part
--   Separators      fields with a separator between, as fields with a separator before each later one
--   FieldPrinting   loops that print fields
--   Values          what stands at each place of the row of a monomial
--   Widths          the number of bytes, and bounds on it
pub mod Steps
pub mod Places
pub mod Words
pub mod Numbers
pub mod Parted
pub mod Rows
pub mod Fields
pub mod LineTexts
pub mod LineKinds
pub mod FirstWord
pub mod Lines
pub mod NumberLoop
pub mod OrderLoop
pub mod RowLoop
pub mod FieldLoop
pub mod Sequences
pub mod Found
pub mod Records
pub mod Cases
pub mod Decimal
pub mod Writing
pub mod Separators
pub mod FieldPrinting
pub mod Values
pub mod Widths
