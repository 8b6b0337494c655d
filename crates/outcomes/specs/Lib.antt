-- What the C functions answer, and what they leave in the slices of their callers: afresh (Outcomes), the kept table (Kept), sheets and reports (Sheets).
-- Assumes nothing.
pub mod Outcomes
pub mod Kept
pub mod Sheets
