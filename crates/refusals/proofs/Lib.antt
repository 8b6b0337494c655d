-- Laws of searches, and of checks in their order.
-- Assumes nothing.
pub mod Laws
pub mod Order
