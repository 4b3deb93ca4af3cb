-- The patterns by number (Numbers); the report (Report), the table (Table), the call (Call); which grades have no belief (Missing).
pub mod Numbers
pub mod Report
pub mod Table
pub mod Call
pub mod Missing
