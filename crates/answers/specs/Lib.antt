-- What a C caller is given, for each case of an answer.
-- Assumes nothing.
pub mod Coded
