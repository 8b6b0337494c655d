-- Lines of a report: the room for each piece, and the thousandths of a fraction.
-- Assumes nothing.
pub mod Pieces
pub mod Rounding
pub mod Room
