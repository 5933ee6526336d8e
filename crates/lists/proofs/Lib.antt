-- The laws of the crate `lists`:
--   Elements      elements of a list by their places
--   EachElement   what holds of every element of a list
--   Tabulated     lists by their places
--   Storing       an array that a loop fills
--   Pushing       a list that a loop fills
--   Testing       the answer of a loop that tests each number below n
--   Sought        the loop of a search for the first place that has P
--   Positions     what a search for the first element that passes a test finds
pub mod Elements
pub mod EachElement
pub mod Tabulated
pub mod Storing
pub mod Pushing
pub mod Testing
pub mod Sought
pub mod Positions
