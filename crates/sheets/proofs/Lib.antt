-- The theorems of reading a sheet, in full; and how they are reached: from a scan to the call's answer, and that a text has one answer.
-- Assumes nothing.
pub mod Theorems
pub mod Unique
pub mod Copying
mod Refusing
