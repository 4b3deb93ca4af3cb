-- `pieces::weigh_shift` meets its contract.
use Prim.Native.Nat.{◌+◌, ◌^◌, ◌<◌}
use native.Mathlib.Omega.{arith}
use mathlib.Core.Path.{refl}
use mathlib.Core.List.{[]}
use lib.ListN.{length}
use borrow.Author.Rules.{rules}
use Rattle.tonnage.specs.Pieces.{weighs_none}
use Rattle.tonnage.proofs.pieces.weigh_shift.Goals as goal

pub weigh_piece-all-requires-clause-some_weighs : goal.weigh_piece-all-requires-clause-some_weighs
weigh_piece-all-requires-clause-some_weighs c =
    let l : length c.args.shift.now < 2 ^ 64 = search rules in
    let f : 0 + length c.args.shift.now < 2 ^ 64 = omega (arith, l) in
    record { bytes = []; weighs = weighs_none _ _ _ _ _ _ c.requires c.begin-tally.ensures (c.begin-input.ensures _ _ refl refl); few = f }

pub returns : goal.returns
returns c =
    let l : length c.args.shift.now < 2 ^ 64 = search rules in
    let f : 0 + length c.args.shift.now < 2 ^ 64 = omega (arith, l) in
    let w = weighs_none _ _ _ _ _ _ c.requires c.begin-tally.ensures (c.begin-input.ensures _ _ refl refl) in
    c.outcome_of.ensures _ _ _ (c.weigh_piece-all.ensures [] w f).tally
