-- Trees of the inductive kind, by which the theorems are proved. A tree table is linked to one in Tables.antt.
--     Shapes      the trees, and how often a number stands in one
--     Lengths     the first pass on a tree: no allowed way is shorter than it says
--     Painting    a way that is as short, with any state of the tree's region on top
--     Reroot      the tree seen from another node: the paper's Theorem 2
--     Tips        the least length, from a tip and what stands above it: equation (16)
--     Delay       ways whose changes are put off: DELTRAN
-- Assumes nothing.
pub mod Shapes
pub mod Lengths
pub mod Painting
pub mod Reroot
pub mod Tips
pub mod Delay
