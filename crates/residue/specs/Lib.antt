-- The definitions of the crate `residue`.
-- Believed:
--   Prime         primes, and the moduli of the format
--   Modular       sum, negation and product modulo p
--   Field         the operations of a ring, and the residues modulo p
-- Inner contracts:
--   Differences   differences modulo p
--   Word          numbers of 16 bits
--   Reciprocals   what a table of reciprocals serves for
--   RingLaws      rings and fields as records of laws
pub mod Prime
pub mod Modular
pub mod Differences
pub mod Word
pub mod Reciprocals
pub mod Field
pub mod RingLaws
