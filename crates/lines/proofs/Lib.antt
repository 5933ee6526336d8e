-- The laws of the crate `lines`:
--   AsRow         lists of numbers as rows of exponents
--   OneMoreTerm   a line with one term more
--   Reversals     two reversals that put an element among others
--   InlineLists   a list that lies in its value
--   Places        a list of which one place is put
--   Stored        a line that is stored
pub mod AsRow
pub mod OneMoreTerm
pub mod Reversals
pub mod InlineLists
pub mod Places
pub mod Stored
pub mod StoredTerms
