-- The theorems of the crate `checks`.
-- The checks as a function of the text:
--   Tests             Boolean tests, and what they decide
--   Model             checks 2 to 11, computed
--   LineChecks        the checks of a line are those of the model
--   Fronts            the line at the front of a text is the one that is read
--   RemainingChecks   the checks of the lines after the basis line are those of the model
--   TextChecks        those of a text, too: each text has one outcome
-- What passing means:
--   GoodLines         the basis lines and the poly lines that pass
--   Passes            a text passes exactly if it is that of a basis with good lines
-- Cases:
--   Cases             texts and their outcomes, as one list with one claim
-- The code:
--   Sequence          one check after another
--   OtherErrors       a result whose error was replaced by another
--   KeptTerm          a term that passes its checks
--   TermsAhead        the terms of a poly line, as they are read
--   LaterTerms        the loop over the later terms of a poly line
--   FirstTerm         a poly line, by its first term
--   OrderWord         the word between two places of a text
--   LineVerdicts      the verdict on a line
--   FoundKinds        the line that a found record is of
--   LinesLoop         the loop over the lines
--   BasisLine         the basis line
pub mod Tests
pub mod Model
pub mod LineChecks
pub mod Fronts
pub mod RemainingChecks
pub mod TextChecks
pub mod GoodLines
pub mod Passes
pub mod Cases
pub mod Sequence
pub mod OtherErrors
pub mod KeptTerm
pub mod TermsAhead
pub mod LaterTerms
pub mod FirstTerm
pub mod OrderWord
pub mod LineVerdicts
pub mod FoundKinds
pub mod LinesLoop
pub mod BasisLine
