-- How the order is listed, turn by turn.
--     Queues      the order of the interior nodes, as a queue
--     Turns       the list that holds the queue
-- Assumes nothing.
mod Queues
mod Turns
