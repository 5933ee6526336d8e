-- The definitions of the crate `answer`.
-- Believed:
--   Outcomes   outcomes of a text, and the checks that they come from
--   Refusals   the numbers of the refusals
--   Answers    answers as the pairs of document 01, and the output bytes afterwards
-- Inner contracts:
--   Verdicts   the outcomes that the answers of the checks say
--   Finished   what the last check comes to
--   Printed    a refusal as it is printed
pub mod Outcomes
pub mod Refusals
pub mod Answers
pub mod Verdicts
pub mod Finished
pub mod Printed
