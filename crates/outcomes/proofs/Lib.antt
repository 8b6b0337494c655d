-- The result slice as the last of the slices, of scores (Lasts) and of a sheet (Sheeting); each function has one outcome (Unique: afresh,
-- UniqueKept, UniqueSheets); and what a caller may conclude from the number (Reading: afresh, ReadingKept, ReadingSheets).
-- Assumes nothing.
pub mod Lasts
pub mod Sheeting
pub mod Unique
pub mod UniqueKept
pub mod UniqueSheets
pub mod Reading
pub mod ReadingKept
pub mod ReadingSheets
