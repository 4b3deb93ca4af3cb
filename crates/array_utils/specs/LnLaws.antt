-- The logarithm by the pattern that is read and its fields.
use Rattle.std.specs.Prelude.{◌≡◌, ℕ, ◌/◌, ◌%◌, ◌^◌, Float}
use Rattle.std.specs.Float.{binary32}
use Rattle.std.specs.Float.Ieee.{to_bits}
use Rattle.definition.specs.Floats.{ln}
use Rattle.message_bounds.specs.Ln.{normal, ln_parts, bits_are}

-- the pattern that is read
abbrev pub bits_of : Float → ℕ
bits_of x = to_bits binary32 (normal x)

pub ln-by-parts : (x : Float) → ln x ≡ ln_parts (bits_of x / 2 ^ 23) (bits_of x % 2 ^ 23 / 2 ^ 13) (bits_of x % 2 ^ 13)
unfolding ln
ln-by-parts x = bits_are (bits_of x)
