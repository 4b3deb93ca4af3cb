-- Laws of the listing's text: decimal digits.
pub mod Decimal
