-- The order of floats, rounding, and each operation as a rounded fraction.
pub mod Order
pub mod Rounded
pub mod Ops
pub mod Laws
-- Intervals with computed ends, sums, and facts shown over a range by one computed test.
pub mod Interval
pub mod Sums
pub mod Table
pub mod Same
-- Bit patterns and whole parts.
pub mod Patterns
pub mod BitOrder
pub mod BitsLess
pub mod Whole
pub mod WholePart
-- How far rounding moves a value; totals, products and shares of lists.
pub mod Error
pub mod Totals
pub mod Products
pub mod Tight
pub mod Scaled
