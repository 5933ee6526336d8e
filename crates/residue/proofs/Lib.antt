-- The theorems of the crate `residue`, besides those of its functions:
--   Remainders      the laws of % for products
--   ModularLaws     the laws of arithmetic modulo p
--   Residues        the residues that numbers stand for
--   Inverses        modulo a prime each residue but zero has exactly one reciprocal
--   ResidueField    the residues modulo p are a commutative ring, and modulo a prime a field
--   Bounds          the largest product of two residues
--   WordQuotients   remainders modulo p by a product
--   Divisors        a number above 1 is prime if no number whose square is at most it divides it
--   Reductions      sum, difference and negation by a comparison
--   Searching       the loop of `is_modulus`
--   Counting        the loop of `counted`
--   Filling         the loop of `Reciprocals::new`
pub mod Remainders
pub mod ModularLaws
pub mod Residues
pub mod Inverses
pub mod ResidueField
pub mod Bounds
pub mod WordQuotients
pub mod Divisors
pub mod Reductions
pub mod Searching
pub mod Counting
pub mod Filling
