-- From a tree table to the trees of Rose.antt, and back to plain sums over the table.
--     Descendants   the descendants of a node, counted
--     Climbing      whoever climbs out of a table stands nowhere twice
--     Reaching      who climbs out of a table passes its root
--     Trees         a table that is a tree: climbing ends, and each node comes to the root once
--     Fitting       the rose trees that fit a table
--     Lengths       the length of a way in such a tree is the plain sum over the table
--     Settling      settled entries are the tree's regions and least lengths
--     Whole         the tree of a whole table, with the root as one more tip
--     Places        where a node stands in it, and what the node sees from above
--     Choices       ways chosen node by node
--     Ways          what is said of ways in a tree is said of ways of the table
--     First         what the first pass means
--     Final         what the second pass means
--     Chosen        ACCTRAN's and DELTRAN's ways are shortest, and there is one of each
--     Mending       a corrected cell: what stays settled
--     Meant         entries that have their meaning are settled
--     Bounds        how high and how long such entries can be
-- Assumes nothing.
pub mod Descendants
pub mod Climbing
pub mod Reaching
pub mod Trees
pub mod Fitting
pub mod Lengths
pub mod Settling
pub mod Whole
pub mod Places
pub mod Choices
pub mod Ways
pub mod First
pub mod Final
pub mod Chosen
pub mod Mending
pub mod Meant
pub mod Bounds
