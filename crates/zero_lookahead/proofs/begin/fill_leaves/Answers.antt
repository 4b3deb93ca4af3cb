-- `zero_lookahead::begin::fill_leaves` meets its contract: the keys of the first d leaves are written.
use Rattle.std.proofs.Common.{◌≡◌, ℕ, ◌∙◌, ap, arith}
use Rattle.list_laws.specs.Write.{write, write-none, write-next}
use Rattle.zero_lookahead.specs.BeginKeys.{leaf_key}
use Rattle.zero_lookahead.specs.Begin.{written_stands}
use Rattle.zero_lookahead.proofs.begin.fill_leaves.Goals as goal

pub loop-d-init : goal.loop-d-init
loop-d-init c = λ s t evidence x S G. write-none _ _ _

pub leaf_key-key-requires : goal.leaf_key-key-requires
leaf_key-key-requires c =
    let S = c.requires.some_standing_any in
    let l = c.loop-d in
    record {
      some_standing_any = record {
        settings = S.settings;
        given = S.given;
        graph = S.graph;
        evidence = S.evidence;
        store = S.store;
        stands =
            written_stands S.stands l.words c.args.at l.d (leaf_key S.settings S.graph S.store) c.requires.at_value.0
            (l.invariant S.settings S.graph S.evidence S.store S.stands S.given);
      };
    }

pub loop-d-preserved : goal.loop-d-preserved
loop-d-preserved c =
    let l = c.loop-d in
    let a = c.args in
    let k = c.leaf_key-key in
    λ s t evidence x S G.
    let e = l.invariant s t evidence x S G in
    write-next a.words.now l.words (leaf_key s t x) a.at l.d k.result e
    (k.ensures s t evidence x (written_stands S l.words a.at l.d (leaf_key s t x) c.requires.at_value.0 e) G)

pub returns : goal.returns
returns c =
    let l = c.loop-d in
    let a = c.args in
    let e : l.d ≡ a.leaves = omega arith in
    λ s t evidence x S G. l.invariant s t evidence x S G ∙ ap (λ (n : ℕ). write a.words.now a.at n (leaf_key s t x)) e
