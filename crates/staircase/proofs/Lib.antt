-- The laws of the crate `staircase`.
-- Places:
--   ArrayRows           the rows of exponents that lists of monomials hold
--   RowsInTurn          the rows of a list of monomials, one after the other
--   LineElements        the lines of a basis of the code, by their places
--   LineLeads           their leading monomials
-- The loops:
--   FirstElements       a search among the elements of a list, and a test of all numbers below n
--   Multiples           the search for a monomial of a list that divides another one
--   PaddedRows          values of the code that hold a row of n exponents
--   ChangedExponents    values of the code with one exponent changed
--   Carries             the next monomial that is not excluded, sought from the last variable on
--   Collecting          all monomials that are not excluded, stored in rising order
--   RisingPlaces        the places of a rising list
--   PlacesInLists       the places of monomials in lists
--   RankedLists         the ranks of lists of monomials
--   Selecting           the smallest elements of a list, in rising order
--   Sorting             the loop of `by_grevlex`
--   SortedLists         what a sorted list has of the list that it was made of
-- The checks:
--   SoundLines          a basis that passed checks 2 to 11 holds lines of polynomials
--   SmallestLine        the smallest line of which a check speaks
--   DividedPlaces       check 12 by places
--   ClearLines          check 12 is the condition of a reduced basis
--   PowersOfVariables   check 13: a leading monomial that is a power, for each variable
--   FewIrreducible      check 14: at most 32 irreducible monomials
--   IrreducibleLists    the sorted list of the irreducible monomials
--   FailingPairs        check 15 is Buchberger's criterion
-- The degrees of check 15:
--   PowersBelow         the powers of one variable below a monomial
--   LcmDegree           the least common multiple of two leading monomials has a degree of at most n + 31
pub mod ArrayRows
pub mod RowsInTurn
pub mod LineElements
pub mod LineLeads
pub mod FirstElements
pub mod Multiples
pub mod PaddedRows
pub mod ChangedExponents
pub mod Carries
pub mod Collecting
pub mod RisingPlaces
pub mod PlacesInLists
pub mod RankedLists
pub mod Selecting
pub mod Sorting
pub mod SortedLists
pub mod SoundLines
pub mod SmallestLine
pub mod DividedPlaces
pub mod ClearLines
pub mod PowersOfVariables
pub mod FewIrreducible
pub mod IrreducibleLists
pub mod FailingPairs
pub mod PowersBelow
pub mod LcmDegree
