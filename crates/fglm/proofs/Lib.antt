-- The theorems of the crate `fglm`, besides those of its functions:
--   Residues          the residues that the code's numbers stand for
--   ListElimination   row elimination over lists of residues, as it computes
--   RowSteps          steps of the elimination on one row
--   Reducing          the loop of `residual`
--   Clearing          the loop of `insert`
--   Adding            what is left of a vector, added to the rows
--   Images            what rows and answers say of the images of monomials
--   Promise           what `Rows` promises of the images of monomials
--   PlacedTerms       the terms of minus a combination, by the places of its coefficients
--   LineTerms         the terms of the line of a dependent monomial
--   PushedMonomials   a list of monomials with one more
--   FirstMonomials    the standard monomials found so far
--   StandardRanks     the ranks of the standard monomials
--   RowImages         the rules that `image_of` goes by
--   NormalImages      the rows of the code as images of monomials
--   WrittenMore       lines in the order of a list of monomials, and one monomial more
--   Visits            the visits of the enumeration
--   ToldNumbers       the calls that are told the number of variables
--   EnumerationLoop   the loop of `enumerate`
--   BasisLines        the enumeration for the lines of a basis of the code
pub mod Residues
pub mod ListElimination
pub mod RowSteps
pub mod Reducing
pub mod Clearing
pub mod Adding
pub mod Images
pub mod Promise
pub mod PlacedTerms
pub mod LineTerms
pub mod PushedMonomials
pub mod FirstMonomials
pub mod StandardRanks
pub mod RowImages
pub mod NormalImages
pub mod WrittenMore
pub mod Visits
pub mod ToldNumbers
pub mod EnumerationLoop
pub mod BasisLines
