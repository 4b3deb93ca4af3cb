-- What the beliefs of a part are said of: the names of its nodes, and the two slices over whose fronts the beliefs are written.
use Rattle.std.specs.Prelude.{ℕ, ◌*◌, ◌≤◌, ◌<◌, ◌≡◌, Bool, true, false, List, map, Float, length, get_or}
use Rattle.definition.specs.Settings as definition
use Rattle.definition.specs.FactorGraph.{Node, grade_node, factor_node, input_node, tree_node, is_grade}
use Rattle.definition.specs.Directions.{MessageGraph, node_at}
use Rattle.definition.specs.Sweeps.{Store}
use Rattle.definition.specs.Answer.{Belief, beliefs_among, belief_numbers, belief_floats}
use Rattle.definition.specs.Call.{overwrite}
use Rattle.factor_graph.specs.Words.{label}
use Rattle.messages.specs.DirectionsRead.{labels_row}
use Rattle.zero_lookahead.specs.Part.{Given, StandsFor}
use Rattle.zero_lookahead.specs.declared.settings.Settings.{Settings}

abbrev pub is_grade_node : Node → Bool
is_grade_node (grade_node g) = true
is_grade_node (factor_node m) = false
is_grade_node (input_node m) = false
is_grade_node (tree_node m) = false

-- the nodes of t go by the names ns, and their labels are the names' numbers
pub record Named (t : MessageGraph) (ns : List Node) (labels : List ℕ) : Type 0 where
  pub long : length ns ≡ length t.nodes
  pub labels_are : labels ≡ map label ns
  pub kinds : (i : ℕ) → i < length ns → is_grade (node_at t i).kind ≡ is_grade_node (get_or ns i (grade_node 0))

-- the beliefs bs stand at the fronts, and are so many
pub record Believed (bs : List Belief) (numbers : List ℕ) (floats : List Float) (count : ℕ) (numbers' : List ℕ) (floats' : List Float) : Type 0 where
  pub count_is : count ≡ length bs
  pub numbers_are : numbers' ≡ overwrite (belief_numbers bs) numbers
  pub floats_are : floats' ≡ overwrite (belief_floats bs) floats

pub record SomeBeliefs (g : Settings) (out : ℕ) (words : List ℕ) (w : List Float) (m k : ℕ) : Type 0 where
  pub settings : definition.Settings
  pub given : Given settings g
  pub graph : MessageGraph
  pub evidence : List Float
  pub store : Store
  pub names : List Node
  pub stands : StandsFor settings graph out evidence store words w
  pub named : Named graph names (labels_row words 0)
  pub numbers_room : length (beliefs_among settings store.msg_in names graph.nodes) ≤ m
  pub floats_room : 2 * length (beliefs_among settings store.msg_in names graph.nodes) ≤ k
