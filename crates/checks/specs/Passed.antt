-- What a check that finds nothing leaves known for the next ones.
use Rattle.std.specs.Prelude.{ℕ, ◌<◌, ◌≡◌, Bool, false, List, [], ◌∷◌, map, Float, length}
use Rattle.std.proofs.Common.{arith}
use Rattle.std.proofs.Math.Option.{none}
use Rattle.definition.specs.FactorGraph.{Bale}
use Rattle.definition.specs.Refusals.{pairs_of, bale_of, too_many, unknown_pair, lowest_place}
use Rattle.graph_laws.specs.Lists.{All, All-mono}
use Rattle.graph_laws.specs.Accepted.{no_place, Sized, sized, valid}
use Rattle.checks.specs.Marks.{InGrid}

-- no test is true
pub none_true : (bs : List Bool) → lowest_place bs ≡ none → All (λ c. c ≡ false) bs
unfolding lowest_place
none_true bs e = no_place 0 bs e

pub sizes-passed : (b : Bale) → lowest_place (too_many 1024 1024 8192 b ∷ []) ≡ none → Sized b
sizes-passed b e = sized b (none_true _ e).0

pub pairs-passed : (g : ℕ) (es : List Float) (ps : List ℕ) → Sized (bale_of g es ps) → lowest_place (map (unknown_pair (bale_of g es ps)) (pairs_of ps)) ≡ none → InGrid (pairs_of ps)
unfolding bale_of
pairs-passed g es ps s e =
    All-mono (λ q. (q.grade < (bale_of g es ps).grades) × (q.marker < length (bale_of g es ps).markers)) (λ q. (q.grade < 1024) × (q.marker < 1024))
    (λ q l. (omega (arith, l.0, s.grades), omega (arith, l.1, s.markers))) (pairs_of ps) (valid (bale_of g es ps) (none_true _ e))
