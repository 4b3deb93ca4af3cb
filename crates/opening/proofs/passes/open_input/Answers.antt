-- `opening::passes::open_input` meets its contract.
use Rattle.std.proofs.Common.{◌≡◌, sym, ap, ◌∙◌, ℕ, ◌*◌, get_or}
use Rattle.definition.specs.Vectors.{binary}
use Rattle.list_laws.specs.Part.{region}
use Rattle.opening.specs.OpenKinds.{inputs_node, inputs_send, input_outgoing, input_taken}
use Rattle.opening.proofs.passes.open_input.Goals as goal

pub returns : goal.returns
returns c =
    let a = c.args in
    let l = c.requires.1 in
    let m = c.send_same in
    let g = c.read-belief in
    let k : get_or a.kinds.now a.n 0 ≡ 2 = sym c.word.ensures.0 ∙ c.if-word.false in
    λ s t R.
    input_taken s t a.kinds.now a.firsts.now a.outs.now a.offsets.now a.labels.now a.evidence.now a.row.now R a.n l k
    (binary g.result.absent g.result.present) (g.ensures.two ∙ ap (λ (i : ℕ). region a.evidence.now (2 * i) 2) c.word-at.ensures.0) _
    (m.ensures s t (inputs_send s t a.kinds.now a.firsts.now a.outs.now a.offsets.now a.labels.now a.evidence.now a.row.now R a.n l)
    (inputs_node s t a.kinds.now a.firsts.now a.outs.now a.offsets.now a.labels.now a.evidence.now a.row.now R a.n l)
    (input_outgoing s t a.kinds.now a.firsts.now a.outs.now a.offsets.now a.labels.now a.evidence.now a.row.now R a.n l k))
