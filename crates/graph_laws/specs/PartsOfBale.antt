-- The parts of an accepted bale: they are connected, two nodes are in one part exactly if one reaches the other, and each node is in one part, once.
use Rattle.std.specs.Prelude.{◌≡◌, ◌↔◌, true}
use Rattle.definition.specs.Lists.{concat, mem}
use Rattle.definition.specs.Settings.{Settings}
use Rattle.definition.specs.FactorGraph.{Bale, Node, eq_node, built_graph}
use Rattle.definition.specs.Components.{components_of}
use Rattle.definition.specs.Refusals.{Buffers, accepted, verdict}
use Rattle.graph_laws.specs.Lists.{All}
use Rattle.graph_laws.specs.Ranks.{NoDup}
use Rattle.graph_laws.specs.Components.{Holds}
use Rattle.graph_laws.specs.Partition.{components_nodup, components-all}
use Rattle.graph_laws.specs.Names.{eq_node_sound, eq_node-same, built-inside}
use Rattle.graph_laws.specs.Accepted.{passes_all, valid}
use Rattle.graph_laws.specs.Connected.{Reaches, Connected, Together, bale_connected, bale_together}

pub record Partitioned (b : Bale) : Type 0 where
  pub connected : All (Connected eq_node (built_graph b).edges) (components_of b)
  pub together : (u w : Node) → Holds eq_node (built_graph b).nodes u → Together b u w ↔ Reaches eq_node (built_graph b).edges u w
  pub every : All (λ u. mem eq_node u (concat (components_of b)) ≡ true) (built_graph b).nodes
  pub once : NoDup eq_node (concat (components_of b))

pub partitioned : (s : Settings) (f : Buffers) (b : Bale) → verdict s f b ≡ accepted → Partitioned b
unfolding components_of built_graph
partitioned s f b h =
    let v = valid b (passes_all s f b h).known in
    record {
      connected = bale_connected b v;
      together = bale_together b v;
      every = components-all eq_node eq_node_sound eq_node-same (built_graph b) (built-inside b v);
      once = components_nodup eq_node eq_node_sound eq_node-same (built_graph b) (built-inside b v);
    }
