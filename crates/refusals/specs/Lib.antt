-- What the answer of a search means.
-- Assumes nothing.
pub mod Search
-- the checks of a call, in their order
pub mod Checks
-- the numbers of the reasons
pub mod Reasons
-- how a refusal is printed
pub mod Printed
