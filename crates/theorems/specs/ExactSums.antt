-- Change request S-31: what a built tree sends is within 2 ^ -10 of the exact fraction, and what is in force out of a tree was sent so.
use Rattle.claims.specs.Patterns.{PatternsEachOnce}
use Rattle.claims.specs.ExactSums.{BuiltNearExact, InForceBuilt, InForceSent}
use Rattle.graph_laws.specs.Patterns as Patterns
use Rattle.graph_laws.specs.SentByTrees as SentByTrees
use Rattle.tree_error.specs.Built as Built

-- the sums run over every pattern, once
pub patterns_each_once : PatternsEachOnce
patterns_each_once = Patterns.patterns_each_once

pub built_near_exact : BuiltNearExact
built_near_exact = Built.built_near_exact

pub in_force_built : InForceBuilt
in_force_built = SentByTrees.in_force_built

pub in_force_sent : InForceSent
in_force_sent = SentByTrees.in_force_sent
