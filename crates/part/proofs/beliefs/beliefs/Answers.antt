-- `part::beliefs::beliefs` meets its contract.
use mathlib.Core.Path.{ap}
use Rattle.definition.specs.Settings.{Settings}
use Rattle.part.specs.Beliefs.{rows_stand}
use Rattle.part.proofs.beliefs.beliefs.Goals as goal

pub write_beliefs-requires : goal.write_beliefs-requires
write_beliefs-requires c =
    let S = c.requires.some_beliefs in record {
      some_rows = record {
        settings = S.settings;
        given = ap (λ (s : Settings). s.prior) S.given;
        graph = S.graph;
        messages = S.store.msg_in;
        names = S.names;
        rows = rows_stand S.settings S.graph c.args.out S.evidence S.store c.args.words.now c.args.w.now S.stands S.names S.named _ _ _ _ c.kinds_row-kinds.ensures c.labels_row-labels.ensures c.firsts_row-firsts.ensures c.offsets_row-offsets.ensures;
        numbers_room = S.numbers_room;
        floats_room = S.floats_room;
      };
    }

pub returns : goal.returns
returns c =
    let a = c.args in
    λ s t evidence x ns S g N m k.
    c.write_beliefs.ensures s t x.msg_in ns
    (rows_stand s t a.out evidence x a.words.now a.w.now S ns N _ _ _ _ c.kinds_row-kinds.ensures c.labels_row-labels.ensures c.firsts_row-firsts.ensures c.offsets_row-offsets.ensures)
    (ap (λ (u : Settings). u.prior) g) m k
