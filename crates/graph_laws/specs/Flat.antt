-- The shape of the refinement: a set of messages as one row of floats, the messages one after the other.
use Rattle.std.specs.Prelude.{List, [], ◌∷◌, ◌++◌, Float}
use Rattle.definition.specs.Vectors.{Message}

unfoldable pub flat : List Message → List Float
flat [] = []
flat (m ∷ ms) = m ++ flat ms
