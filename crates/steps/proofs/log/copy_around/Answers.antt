-- `steps::log::copy_around` meets its contract: after i turns what the first i neighbours hold is copied.
use Rattle.std.proofs.Common.{◌≡◌, List, ℕ, ◌+◌, ◌-◌, ◌<◌, ◌∙◌, length, get_or, refl, arith}
use Rattle.list_laws.specs.Part.{region, length-region, get_d_region}
use Rattle.steps.specs.StepLog.{Words, node_in, neighbour_in, around_none, around_step, around_all}
use Rattle.steps.proofs.log.copy_around.Goals as goal
use Rattle.steps.proofs.log.copy_around.Goals.{In-loop-start}

-- node n's neighbours
abbrev count : List ℕ → ℕ → ℕ
count firsts n = get_or firsts (n + 1) 0 - get_or firsts n 0

abbrev row : List ℕ → List ℕ → ℕ → List ℕ
row firsts starts n = region starts (get_or firsts n 0) (count firsts n)

row_long : (firsts starts offsets : List ℕ) (n : ℕ) → Words firsts starts offsets → n + 1 < length firsts → length (row firsts starts n) ≡ count firsts n
row_long firsts starts offsets n W h =
    let Q = W.read in
    let end = Q.first-le (n + 1) (omega (arith, Q.firsts-long)) in
    let mono = Q.first_mono n (n + 1) (omega arith) (omega (arith, Q.firsts-long)) in
    length-region starts (get_or firsts n 0) (count firsts n) (omega (arith, end, mono, Q.starts_long))

pub loop-start-init : goal.loop-start-init
loop-start-init c =
    let a = c.args in
    λ g. around_none a.firsts.now a.starts.now a.offsets.now g a.w.now a.from a.to c.requires.apart (row a.firsts.now a.starts.now a.n)

-- the neighbour whose turn it is
neighbour : (c : In-loop-start) → get_or (row c.args.firsts.now c.args.starts.now c.args.n) c.loop-start.start-index 0 + 1 < length c.args.firsts.now
neighbour c =
    let a = c.args in
    let i = c.loop-start.start-index in
    let held : i < count a.firsts.now a.n = omega (arith, row_long _ _ _ _ c.requires.words.0 c.requires.words.1, c.loop-start-test.true) in
    rw (get_d_region a.starts.now (get_or a.firsts.now a.n 0) (count a.firsts.now a.n) i 0 held)
    (neighbour_in a.firsts.now a.starts.now a.offsets.now c.requires.words.0 a.n i c.requires.words.1 held).1

pub copy_node-requires-clause-node_in : goal.copy_node-requires-clause-node_in
copy_node-requires-clause-node_in c =
    let a = c.args in
    node_in a.firsts.now a.starts.now a.offsets.now c.requires.words.0 _ (neighbour (goal.at.copy_node-requires-clause-node_in c).In-loop-start)

pub loop-start-preserved : goal.loop-start-preserved
loop-start-preserved c =
    let a = c.args in
    let l = c.loop-start in
    let starts = row a.firsts.now a.starts.now a.n in
    λ g.
    c.copy_node.ensures
    ∙ around_step a.firsts.now a.starts.now a.offsets.now g a.w.now a.from a.to c.requires.apart starts l.start-index (get_or starts l.start-index 0) l.w
    (neighbour (goal.at.loop-start-preserved c).In-loop-start) refl (l.invariant g)

pub returns : goal.returns
returns c =
    let l = c.loop-start in
    let a = c.args in
    let all : l.start-index ≡ count a.firsts.now a.n =
    omega (arith, row_long _ _ _ _ c.requires.words.0 c.requires.words.1, c.loop-start-test.false, l.auto.start-index-end) in
    λ g. around_all a.firsts.now a.starts.now a.offsets.now g a.w.now a.from a.to c.requires.apart a.n l.start-index l.w c.requires.words.1 all (l.invariant g)
