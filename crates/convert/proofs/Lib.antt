-- The theorems of the crate `convert`.
-- Bases:
--   SizesSuffice      the sizes of a reduced basis with few irreducible monomials
--   FewIrreducible    check 14: more than 32 irreducible monomials, or the list of them
--   ComputedGround    residues and monomials with decisions and reciprocals that compute
--   ReducedTerms      the division by lines as a function
--   LexEnumeration    the enumeration of the lex basis, computed
--   Conversions       the reduced lex Groebner basis and its standard monomials: existence, uniqueness, equivalence of the two systems
-- Texts:
--   LineTerms         the lines of a text, as terms, and the lines of polynomials that they are
--   PassedLines       good lines make polynomials, greatest term first
--   GoodTerms         the terms of a basis within the sizes are of the form and pass checks 6 to 10
--   LineSequence      loops over the lines of a text
--   LinePlaces        the poly lines of a lex basis of the code, place by place
--   PrintedValues     what is printed for the lines and monomials of a lex basis of the code
--   OutputParts       the output for a lex basis of the code, by its parts
--   TextWidth         a text that passes checks 2 to 11 has at most 65,536 bytes
--   RefusalNumbers    the numbers of the refusals by checks 2 to 11
--   LastCheck         check 16
--   Converting        the conversion of a basis that passed checks 2 to 15
--   TextOutcome       the outcome of a text, from the answers to its checks
-- Outcomes:
--   ConvertedChecks   checks 12 to 16 for a basis whose p is prime
--   OutcomeUnique     each text and room has at most one outcome
--   LineDecisions     decisions over the lines of a text, and the smallest line that has a property
--   CheckDecisions    checks 12 and 15 are decided
--   PairDecisions     check 15 for a pair of lines, computed
--   OutcomeExists     each text and room has an outcome, which is computed
--   OutcomeCases      a refusal with a number from 1 to 15, or checks 1 to 15 pass and the room decides
-- The demands:
--   OutputLines       the lines of the output are those of the lex basis
--   ReadingUnique     what is read from a text is determined by its bytes
--   ReachedSizes      the sizes of the lex basis that is reached
--   Systems           demand 3 follows from the outcome
--   RoomSuffices      an output of 65,536 bytes is always long enough
--   Usable            demand 2, its last sentence, follows from the outcome
--   ExactlyUsable     no other text is refused only where the output is too short
--   Meets             the outcome is all that the converter has to prove
--   Functional        the contract leaves no choice
--   LineOrder         inputs that differ only in the order of their poly lines give equal bytes
--   DottedCases       the cases of document 01 with a dot: one list, one claim
--   WrongConverters   the wrong converters of document 01 do not meet the contract
pub mod SizesSuffice
pub mod FewIrreducible
pub mod ComputedGround
pub mod ReducedTerms
pub mod LexEnumeration
pub mod Conversions
pub mod LineTerms
pub mod PassedLines
pub mod GoodTerms
pub mod LineSequence
pub mod LinePlaces
pub mod PrintedValues
pub mod OutputParts
pub mod LastCheck
pub mod Converting
pub mod TextOutcome
pub mod TextWidth
pub mod RefusalNumbers
pub mod ConvertedChecks
pub mod OutcomeUnique
pub mod LineDecisions
pub mod CheckDecisions
pub mod PairDecisions
pub mod OutcomeExists
pub mod OutcomeCases
pub mod OutputLines
pub mod ReadingUnique
pub mod ReachedSizes
pub mod Systems
pub mod RoomSuffices
pub mod Usable
pub mod ExactlyUsable
pub mod Meets
pub mod Functional
pub mod LineOrder
pub mod DottedCases
pub mod WrongConverters
