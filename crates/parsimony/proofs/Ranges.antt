-- Ordered characters keep the laws of a kind; and the join of ranges, in each of the forms that the paper and the lecture give it.
--     Distances   distances by the signs of the integers
--     Chains      ranges with their ends paired anew, each pair within the one before
--     Middles     the innermost pair is the middle two of the ends in rising order
--     Laws        the laws of a kind
--     Joins       two ranges and three: overlap or gap, medians, the paper's three-way intersection
-- Assumes nothing.
pub mod Distances
pub mod Chains
pub mod Middles
pub mod Laws
pub mod Joins
