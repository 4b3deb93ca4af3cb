-- `replay::listed::is_shift_listing` meets its contract: in each turn what is left of the listing and of the text decides.
use Rattle.std.specs.Prelude.{refl, eqb, take}
use Rattle.std.proofs.Common.{rules, sym, ap, ◌∙◌, length-take-le}
use Rattle.std.specs.Str.{bytes_eq}
use Rattle.std.specs.List.{starts_with}
use borrow.Author.Rules.{part_to_end}
use Rattle.bale_listing.specs.Lent.{rest-fits}
use Rattle.replay.specs.Told.{none_told, told_not, told_more, all_told}
use Rattle.replay.proofs.listed.is_shift_listing.Goals as goal

pub loop-at-init : goal.loop-at-init
loop-at-init c = (none_told (c.begin-input.ensures _ _ refl refl), refl, refl, refl)

pub returns-then-not-starts_with : goal.returns-then-not-starts_with
returns-then-not-starts_with c =
    let t = c.loop-at.invariant.0 in
    let n = c.list_next-next in
    let begun = c.starts_with.ensures.value ∙ ap (λ text. starts_with eqb text (take n.result.len n.new.out)) (part_to_end c.args.text.now c.loop-at.told) in
    sym (told_not t (part_to_end c.args.file.now c.loop-at.at) (c.list_next-next.ensures t.bytes t.held) (sym begun ∙ c.if-not-starts_with.true))

pub loop-at-preserved : goal.loop-at-preserved
loop-at-preserved c =
    let t = c.loop-at.invariant.0 in
    let n = c.list_next-next in
    let begun = c.starts_with.ensures.value ∙ ap (λ text. starts_with eqb text (take n.result.len n.new.out)) (part_to_end c.args.text.now c.loop-at.told) in (
      told_more t (part_to_end c.args.file.now c.loop-at.at) (c.list_next-next.ensures t.bytes t.held) (sym begun ∙ c.if-not-starts_with.false),
      search rules,
      search rules,
      search rules,
    )

pub slice_bounds-out-end-2 : goal.slice_bounds-out-end-2
slice_bounds-out-end-2 c =
    let t = c.loop-at.invariant.0 in rest-fits _ _ _ _ _ _ _ t.bytes (c.list_last-n.ensures t.bytes t.held.taken)

pub slice_bounds-eq-end : goal.slice_bounds-eq-end
slice_bounds-eq-end c =
    let t = c.loop-at.invariant.0 in sym (length-take-le _ _ (rest-fits _ _ _ _ _ _ _ t.bytes (c.list_last-n.ensures t.bytes t.held.taken)))

pub returns : goal.returns
returns c =
    let t = c.loop-at.invariant.0 in
    c.eq.ensures
    ∙ ap (bytes_eq _) (part_to_end c.args.text.now c.loop-at.told)
    ∙ all_told _ _ _ _ _ _ _ t c.loop-at-test.false (c.list_last-n.ensures t.bytes t.held.taken)
