-- `nodes::write_kinds` meets its contract.
use borrow.Rule.Slice.PartMut.{put_mid}
use Rattle.std.proofs.Common.{◌≡◌, ap, ◌∙◌, List, ◌++◌, ℕ, ◌+◌, ◌-◌, ◌≤◌, arith, length, take, drop, replicate}
use Rattle.std.proofs.lemmas.List.{length-replicate}
use Rattle.list_laws.specs.Part.{length-region}
use Rattle.list_laws.specs.Put.{put, put-part, length-put}
use Rattle.factor_graph.specs.BuildNodes.{four_calls}
use Rattle.factor_graph.proofs.nodes.write_kinds.Goals as goal

-- a range that was filled
filled : (w y : List ℕ) (at n v : ℕ) → at + n ≤ length w → y ≡ replicate (length (take (at + n - at) (drop at w))) v → put_mid at (at + n - at) w y ≡ put w at (replicate n v)
filled w y at n v fits e =
    let k : at + n - at ≡ n = omega arith in
    let f : y ≡ replicate n v = e ∙ ap (λ (i : ℕ). replicate (length (take i (drop at w))) v) k ∙ ap (λ (i : ℕ). replicate i v) (length-region w at n fits) in
    ap (λ (i : ℕ). take at w ++ (y ++ drop i (drop at w))) k ∙ ap (λ (u : List ℕ). take at w ++ (u ++ drop n (drop at w))) f ∙ put-part w (replicate n v) at n (length-replicate n v)

long : (w u : List ℕ) (at n v : ℕ) → at + n ≤ length w → u ≡ put w at (replicate n v) → length u ≡ length w
long w u at n v fits e = ap length e ∙ length-put w at (replicate n v) (omega (arith, length-replicate n v))

pub returns : goal.returns
returns c =
    let a = c.args in
    let w = a.words.now in
    let factors = a.at + a.g in
    let inputs = factors + a.m in
    let trees = inputs + a.m in
    let e = filled w c.fill.new.self a.at a.g 0 (omega arith) (c.fill.ensures.after (λ y q. q)) in
    let k = long w _ a.at a.g 0 (omega arith) e in
    let f = filled _ c.fill-2.new.self factors a.m 1 (omega arith) (c.fill-2.ensures.after (λ y q. q)) in
    let l = long _ _ factors a.m 1 (omega arith) f in
    let g = filled _ c.fill-3.new.self inputs a.m 2 (omega arith) (c.fill-3.ensures.after (λ y q. q)) in
    let m = long _ _ inputs a.m 2 (omega arith) g in
    let h = filled _ c.fill-4.new.self trees a.t 3 (omega arith) (c.fill-4.ensures.after (λ y q. q)) in
    four_calls w _ _ _ _ a.at a.g a.m (replicate a.g 0) (replicate a.m 1) (replicate a.m 2) (replicate a.t 3) (length-replicate a.g 0) (length-replicate a.m 1) (length-replicate a.m 2)
    (omega (arith, length-replicate {A = ℕ} a.t 3)) e f g h
