-- The definitions of the crate `lists`.
-- Believed:
--   Lists       elements of a list, and what holds of them
-- Inner contracts:
--   Pairs       an element before another
--   Tabulated   lists that a function of the place gives
pub mod Lists
pub mod Pairs
pub mod Tabulated
