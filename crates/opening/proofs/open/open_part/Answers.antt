-- `opening::open::open_part` meets its contract.
use Rattle.std.proofs.Common.{◌≡◌, ◌-◌, ◌*◌, ◌≤◌, ◌++◌, ◌∙◌, length, take, drop, refl, arith}
use Rattle.list_laws.specs.Slices.{copy_within-put}
use Rattle.opening.specs.Open.{some-offset, floats_room, first-row, one-row-long, open_floats}
use Rattle.opening.proofs.open.open_part.Goals as goal
use Rattle.opening.proofs.open.open_part.Goals.{After-initialize_messages}

pub overflow_sub-offsets : goal.overflow_sub-offsets
overflow_sub-offsets c = let S = c.requires.some_open_floats in some-offset S.rows

pub word-l-requires : goal.word-l-requires
word-l-requires c = let S = c.requires.some_open_floats in omega (arith, some-offset S.rows)

pub slice_bounds-initialize_messages-end : goal.slice_bounds-initialize_messages-end
slice_bounds-initialize_messages-end c = let S = c.requires.some_open_floats in omega (arith, floats_room S.rows, c.word-l.ensures.0)

pub initialize_messages-requires : goal.initialize_messages-requires
initialize_messages-requires c =
    let S = c.requires.some_open_floats in
    record { some_open_part = record { settings = S.settings; graph = S.graph; rows = first-row S.rows (c.word-l.result - 0) (omega (arith, c.word-l.ensures.0)) } }

-- the first row was written over, and the next two have room
rows : (c : After-initialize_messages)
    → 3 * c.word-l.result ≤ length (take 0 c.args.w.now ++ (c.initialize_messages.new.row ++ drop (c.word-l.result - 0) (drop 0 c.args.w.now)))
rows c =
    let S = c.requires.some_open_floats in
    let l = c.word-l in
    let m = c.initialize_messages in
    let r = floats_room S.rows in
    let e = one-row-long c.args.w.now m.new.row (l.result - 0) (omega (arith, r, l.ensures.0)) m.auto.row in
    omega (arith, e, r, l.ensures.0)

pub copy_within-requires-clause-dest_in_bounds : goal.copy_within-requires-clause-dest_in_bounds
copy_within-requires-clause-dest_in_bounds c = omega (arith, rows (goal.at.copy_within-requires-clause-dest_in_bounds c).After-initialize_messages)

pub copy_within-requires-2-clause-dest_in_bounds : goal.copy_within-requires-2-clause-dest_in_bounds
copy_within-requires-2-clause-dest_in_bounds c =
    omega (arith, c.copy_within.ensures.len, rows (goal.at.copy_within-requires-2-clause-dest_in_bounds c).After-initialize_messages)

pub returns : goal.returns
returns c =
    let l = c.word-l in
    let m = c.initialize_messages in
    let p = c.copy_within in
    let q = c.copy_within-2 in
    let z : l.result - 0 ≡ l.result = omega arith in
    let room = rows (goal.at.returns c).After-initialize_messages in
    λ s t r_in r_new r_log r_build pending rest F G e.
    open_floats F l.result (l.result - 0) l.ensures.0 z m.new.row _ p.new.self q.new.self m.auto.row
    (m.ensures s t (first-row F (l.result - 0) (z ∙ l.ensures.0)) G e) refl
    (p.ensures.after ∙ copy_within-put _ 0 l.result l.result l.result (omega (arith, room)) (omega arith))
    (q.ensures.after ∙ copy_within-put p.new.self 0 l.result (2 * l.result) l.result (omega (arith, room, p.ensures.len)) (omega arith))
