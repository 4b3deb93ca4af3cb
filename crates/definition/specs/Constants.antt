-- The numbers that document 01 gives by their bits or by a rule, computed: c, LN_2, LOG2_E, and the last entry of LOG_TABLE.
use Rattle.std.specs.Prelude.{◌^◌, ◌≡◌, refl}
use Rattle.std.specs.Float.{binary32}
use Rattle.std.specs.Float.Ieee.{round, of_bits}
use Rattle.definition.specs.Floats.{c, ln2, log2e, ratio, log_table_number}

pub record Constants : Type 0 where
  pub nearest : c ≡ ratio 1 (10 ^ 30)
  pub ln2-bits : ln2 ≡ of_bits binary32 0x3F317218
  pub log2e-bits : log2e ≡ of_bits binary32 0x3FB8AA3B
  pub last_entry : log_table_number 1024 ≡ 11629079

pub constants : Constants
unfolding round of_bits log_table_number
constants = record { nearest = refl; ln2-bits = refl; log2e-bits = refl; last_entry = refl }
