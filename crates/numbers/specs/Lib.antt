-- Numbers and keys in a text: how they are read, and how they are written.
-- Assumes nothing.
pub mod Numbers
pub mod Printed
