-- How a part ends, as the code has it.
use Rattle.std.specs.Prelude.{ℕ, ◌≡◌, List, Float}
use Rattle.definition.specs.Settings.{Settings}
use Rattle.definition.specs.Directions.{MessageGraph}
use Rattle.definition.specs.Run as run
use Rattle.zero_lookahead.specs.Part.{StandsFor}
use Rattle.part.specs.declared.run.Ending.{Ending}
use Rattle.part.specs.declared.run.Ending.TheVariants.{Limit, Settled, Empty}

abbrev pub ending_from : Ending → run.Ending
ending_from (Limit r) = run.limit r
ending_from (Settled r) = run.settled r
ending_from Empty = run.empty

-- the ending, the steps and the floats are those of e
pub record Ends (s : Settings) (t : MessageGraph) (out : ℕ) (evidence : List Float) (e : run.Ended) (ending : Ending) (steps : ℕ) (words : List ℕ) (w : List Float) : Type 0 where
  pub ending-is : ending_from ending ≡ e.ending
  pub steps_are : steps ≡ e.state.steps
  pub stands : StandsFor s t out evidence e.state.store words w

-- the part has run to its end
abbrev pub Ran : Settings → MessageGraph → ℕ → List Float → Ending → ℕ → List ℕ → List Float → Type 0
Ran s t out evidence ending steps words w = Ends s t out evidence (run.run s t) ending steps words w
