-- `opening::open::initialize_messages` meets its contract.
use mathlib.Core.Path.{◌≡◌, ap, ◌∙◌}
use native.Mathlib.Omega.{arith}
use lib.ListN.{length}
use Rattle.definition.specs.FactorGraph.{is_grade, is_factor, is_input}
use Rattle.definition.specs.Sweeps.{update_kind, opening_input, opening_factor, opening_grade, initialize_messages}
use Rattle.opening.specs.Open.{message_rows, inputs_rows, factors_rows, grades-rows}
use Rattle.opening.proofs.open.initialize_messages.Goals as goal

pub fill_initial-requires : goal.fill_initial-requires
fill_initial-requires c = let S = c.requires.some_open_part in record { directions = S.graph.directions; is = message_rows S.rows }

pub open_inputs-requires : goal.open_inputs-requires
open_inputs-requires c = let S = c.requires.some_open_part in record { settings = S.settings; graph = S.graph; rows = inputs_rows S.rows (omega (arith, c.fill_initial.auto.row)) }

pub open_factors-requires : goal.open_factors-requires
open_factors-requires c = let S = c.requires.some_open_part in record { settings = S.settings; graph = S.graph; rows = factors_rows S.rows (omega (arith, c.fill_initial.auto.row, c.open_inputs.auto.row)) }

pub open_grades-requires : goal.open_grades-requires
open_grades-requires c =
    let S = c.requires.some_open_part in
    record { some_grades_rows = record { settings = S.settings; graph = S.graph; rows = grades-rows S.rows (omega (arith, c.fill_initial.auto.row, c.open_inputs.auto.row, c.open_factors.auto.row)) } }

pub returns : goal.returns
unfolding initialize_messages
returns c =
    let q = c.fill_initial in
    let i = c.open_inputs in
    let f = c.open_factors in
    let g = c.open_grades in
    let l₁ : length q.new.row ≡ length c.args.row.now = omega (arith, q.auto.row) in
    let l₂ : length i.new.row ≡ length c.args.row.now = omega (arith, i.auto.row) in
    let l₃ : length f.new.row ≡ length c.args.row.now = omega (arith, f.auto.row) in
    λ s t R F e.
    g.ensures s t (grades-rows R l₃) e
    ∙ ap (update_kind is_grade (opening_grade s) t.nodes)
    (f.ensures s t (factors_rows R l₂) F
    ∙ ap (update_kind is_factor (opening_factor s t) t.nodes) (i.ensures s t (inputs_rows R l₁) ∙ ap (update_kind is_input (opening_input s) t.nodes) (q.ensures t.directions (message_rows R))))
