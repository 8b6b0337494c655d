-- What is meant, in the order of the paper (Swofford and Maddison 1987): a tree, a way of giving a state to each of its nodes, the way's
-- length, the least length, and the states that ways of least length use. Then the paper's steps, each said of one node by itself, and the
-- indices. What is proved of all this stands in proofs/, its results together in proofs/Theorems.antt.
--
-- Each letter has one meaning:
--     n       the number of taxa            k v u   nodes             ρ δ     the root, and the root's descendant
--     tree    a tree table                  s       a number of steps
--     w       a way                         x y z   states            r q     regions (of ordered characters: ranges)
-- Assumes nothing.

-- sums over lists, and small lists of numbers
pub mod Lists
-- a tree as a table of ancestors, and which tables are accepted
pub mod Table
-- what a kind of character is: its states, their distance, and what is asked of both
pub mod Kind
-- ordered characters: integers, and ranges of them
pub mod Ordered
-- a way of giving a state to each node, and its length
pub mod Way
-- least, and used
pub mod Least
-- what a table entry, a final range and a length mean
pub mod Meaning
-- the paper's steps: first pass, second pass, ACCTRAN and DELTRAN
pub mod Steps
-- a matrix of states: which cell is whose
pub mod Matrix
-- one ordered character, as lists of numbers
pub mod Character
-- m, g, CI and RI
pub mod Index
