-- The first of the checks of a call that fails.
use Rattle.std.specs.Prelude.{ℕ, ◌<◌, List, eqb}
use Rattle.definition.specs.Lists.{index_of}

-- F n p: check n fails at place p. The first that fails: by its turn in the order of the checks, then by place.
pub record First (order : List ℕ) (F : ℕ → ℕ → Type 0) (n p : ℕ) : Type 0 where
  pub fails : F n p
  pub place : (q : ℕ) → q < p → F n q → ⊥
  pub earlier : (m q : ℕ) → index_of eqb m order < index_of eqb n order → F m q → ⊥
