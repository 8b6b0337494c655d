-- What the promises of the kept table imply: one outcome for each call, and what a list of corrections leaves.
--     Passed      what is known once no check applies
--     Unique      each call has one outcome
--     Sound       entries that have their meaning are never bad: refusal 10 does not apply
--     Lists       one correction after the other
--     Theorems    the results, in full
-- Assumes nothing.
pub mod Passed
pub mod Unique
pub mod Sound
pub mod Lists
pub mod Theorems
