-- When no further byte of the lines counts.
use Rattle.std.specs.Prelude.{ℕ, Bool, List, leb, length}

-- behind 100,011 bytes none does (`LongLines` of the claims)
abbrev pub enough : List ℕ → Bool
enough bs = leb 100011 (length bs)
