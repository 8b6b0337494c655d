-- What the steps ask and leave (Reading).
-- Assumes nothing.
mod Reading
