-- `replay::listed::is_listing` meets its contract.
use Rattle.std.specs.Prelude.{ℕ, List, [], refl, replicate}
use Rattle.std.proofs.Common.{arith, sym, ap, ◌∙◌, length-take-le}
use Rattle.definition.specs.Listing.{listing}
use Rattle.listing.specs.Front.{front_fits, front-is}
use Rattle.std.specs.Str.{bytes_eq}
use Rattle.replay.proofs.listed.is_listing.Goals as goal

pub take_piece-input-requires-clause-some_taken_in : goal.take_piece-input-requires-clause-some_taken_in
take_piece-input-requires-clause-some_taken_in c = record { bytes = []; taken = c.begin-start.ensures _ _ refl refl }

pub take_piece-input-requires-clause-piece_bound : goal.take_piece-input-requires-clause-piece_bound
take_piece-input-requires-clause-piece_bound c = let t = c.begin-start.ensures (replicate 24 0) (replicate 140 0) refl refl in omega (arith, t.counted, c.requires)

pub list_bale-n-requires-clause-some_taken : goal.list_bale-n-requires-clause-some_taken
list_bale-n-requires-clause-some_taken c =
    record { bytes = _; taken = (c.take_piece-input.ensures [] (c.begin-start.ensures _ _ refl refl)).taken }

pub slice_bounds-out-end : goal.slice_bounds-out-end
slice_bounds-out-end c =
    let r = c.list_bale-n.ensures _ (c.take_piece-input.ensures [] (c.begin-start.ensures _ _ refl refl)).taken in
    front_fits (listing c.args.file.now) _ _ _ (r.text, r.long)

pub slice_bounds-eq-end : goal.slice_bounds-eq-end
slice_bounds-eq-end c =
    let r = c.list_bale-n.ensures _ (c.take_piece-input.ensures [] (c.begin-start.ensures _ _ refl refl)).taken in
    sym (length-take-le _ _ (front_fits (listing c.args.file.now) _ _ _ (r.text, r.long)))

pub returns : goal.returns
returns c =
    let r = c.list_bale-n.ensures _ (c.take_piece-input.ensures [] (c.begin-start.ensures _ _ refl refl)).taken in
    c.eq.ensures ∙ ap (λ (l : List ℕ). bytes_eq l c.args.text.now) (front-is (listing c.args.file.now) _ _ _ (r.text, r.long))
