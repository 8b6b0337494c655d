-- What a sheet is, in print, and the refusals of a text that is none. A text is a list of bytes.
--
-- Letters: s a sheet; n its taxa and c its characters; k the number of a line, from 1; i a position in a text, from 0; r a resolve choice.
-- Assumes nothing.
pub mod Sheets
pub mod Faults
-- parts of a text, as they are read one after the other
pub mod Parts
