-- `convolution_tree::propagate` meets its contract.
use mathlib.Core.List.{List, ◌++◌}
use Prim.Native.Nat.{ℕ, ◌+◌, ◌-◌}
use native.Mathlib.Omega.{arith}
use lib.ListN.{length, take, drop}
use lib.Ieee.{Float}
use Rattle.convolution_tree.specs.Tree.{root_place, up-back, exchanged_is, down-given, down-back}
use Rattle.convolution_tree.proofs.tree.propagate.Goals as goal

-- the slice after the way up
abbrev grown_whole : List Float → ℕ → List Float → List Float
grown_whole w n u = take (n + 1) w ++ (u ++ drop (length w - (n + 1)) (drop (n + 1) w))

pub propagate_backward-requires : goal.propagate_backward-requires
propagate_backward-requires c =
    let a = c.args in
    let p = c.requires in
    let up = c.build_remaining_layers-root in
    let ex = c.exchange in
    let r = root_place a.w.now a.n a.layers a.leaves p.1 p.3 p.4 p.6 up.result up.ensures.2 in
    let g = up-back a.w.now a.n a.layers a.leaves p.1 p.3 p.4 p.6 up.new.w up.ensures.0 in
    let e = exchanged_is a.w.now a.n a.layers a.leaves p.1 p.3 p.4 p.6 (grown_whole a.w.now a.n up.new.w) ex.new.w up.result r g ex.ensures in
    let d = down-given a.w.now a.n a.layers a.leaves p.1 p.3 p.4 p.6 ex.new.w up.result r e in
    (up.ensures.1, p.1, p.2, d.0, d.1, omega (arith, p.5), d.2)

pub returns : goal.returns
returns c =
    let a = c.args in
    let p = c.requires in
    let up = c.build_remaining_layers-root in
    let ex = c.exchange in
    let r = root_place a.w.now a.n a.layers a.leaves p.1 p.3 p.4 p.6 up.result up.ensures.2 in
    let g = up-back a.w.now a.n a.layers a.leaves p.1 p.3 p.4 p.6 up.new.w up.ensures.0 in
    let e = exchanged_is a.w.now a.n a.layers a.leaves p.1 p.3 p.4 p.6 (grown_whole a.w.now a.n up.new.w) ex.new.w up.result r g ex.ensures in
    let v = c.propagate_backward in
    (down-back a.w.now a.n a.layers a.leaves p.1 p.3 p.4 p.6 ex.new.w up.result r e v.new.w v.ensures.0, v.ensures.1)
