-- `zero_lookahead::open::open_floats` meets its contract.
use mathlib.Core.Path.{ap}
use Rattle.definition.specs.Settings.{Settings}
use Rattle.zero_lookahead.specs.Open.{pending_fits, factor-settings, cleared, open_rows}
use Rattle.zero_lookahead.proofs.open.open_floats.Goals as goal

pub clear_pending-requires : goal.clear_pending-requires
clear_pending-requires c = let R = c.requires.some_part_room.room in pending_fits R.part 1664 _ R.floats

pub open_part-requires : goal.open_part-requires
open_part-requires c =
    let S = c.requires.some_part_room in
    let C = cleared S.room c.clear_pending.new.w c.clear_pending.ensures in record {
      some_open_floats = record {
        settings = S.settings;
        graph = S.graph;
        msg_in = C.r_in;
        msg_in_new = C.r_new;
        msg_in_log = C.r_log;
        last_builds = C.r_build;
        pending = C.pending;
        rest = C.rest;
        rows = open_rows S.room c.kinds_row-kinds.ensures c.firsts_row-firsts.ensures c.starts_row-starts.ensures c.outs_row-outs.ensures c.offsets_row-offsets.ensures c.labels_row-labels.ensures C;
      };
    }

pub returns : goal.returns
returns c =
    let v = c.clear_pending in
    λ s t R G.
    let C = cleared R v.new.w v.ensures in
    record {
      before = v.new.w;
      clear = C;
      opened =
          c.open_part.ensures s t C.r_in C.r_new C.r_log C.r_build C.pending C.rest
          (open_rows R c.kinds_row-kinds.ensures c.firsts_row-firsts.ensures c.starts_row-starts.ensures c.outs_row-outs.ensures c.offsets_row-offsets.ensures c.labels_row-labels.ensures C)
          (factor-settings G) (ap (λ (z : Settings). z.prior) G);
    }
