-- What is proved of the definitions in specs/. The results stand together in Theorems.antt, and worked examples in Examples.antt. The rest of
-- the folder is how they are reached:
--     Tests       tests that are computed
--     Sums        laws of sums over lists of nodes
--     Often       how often a number stands in a list
--     Rose        least lengths and shortest ways on a tree of the inductive kind, for any kind of character
--     Tables      from a tree table to such a tree and back: what the passes over a table mean
--     Ranges      ordered characters are a kind; the join of ranges in its several forms
--     Matrices    the layout of a matrix
--     Characters  one ordered character, as lists of numbers
--     Uniqueness  what has a meaning has it alone
--     Spread      the greatest difference between two states
--     Extent      no way is shorter than two of its states are apart
-- Assumes nothing.
pub mod Theorems
pub mod Examples
pub mod Tests
pub mod Sums
pub mod Often
pub mod Rose
pub mod Tables
pub mod Ranges
pub mod Matrices
pub mod Characters
pub mod Uniqueness
pub mod Spread
pub mod Extent
