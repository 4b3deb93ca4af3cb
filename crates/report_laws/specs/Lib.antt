-- Calls that answer with a report: how many pass a test (Counts), bales under other reads are accepted alike (Under), and which grades have no belief
-- (Missing); what the checks of sizes say (Sizes), what is left (Result), and that graphs which differ in their evidence alone are one to such a call (Unread).
pub mod Counts
pub mod Under
pub mod Missing
pub mod Sizes
pub mod Result
pub mod Unread
