-- m and g over one taxon more, and m beside g.
-- Assumes nothing.
mod Taxa
pub mod Most
