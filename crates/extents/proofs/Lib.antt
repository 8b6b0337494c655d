-- How high m and g can be.
-- Assumes nothing.
mod Bounds
