-- `zero_lookahead::begin::begin` meets its contract.
use mathlib.Core.Path.{◌≡◌, sym, ap, ◌∙◌, subst}
use mathlib.Core.List.{List}
use Prim.Native.Nat.{ℕ, ◌+◌, ◌-◌, ◌*◌}
use native.Mathlib.Omega.{arith}
use lib.ListN.{get_or}
use Rattle.definition.specs.Run.{begin_loop}
use Rattle.list_laws.specs.Part.{length-region}
use Rattle.priorities.specs.Leaves.{leaves_for, leaves-some}
use Rattle.zero_lookahead.specs.Part.{leaves_in, queue_at, Runs, KeptFront}
use Rattle.zero_lookahead.specs.Open.{pending_fits}
use Rattle.zero_lookahead.specs.BeginKeys.{floats_count}
use Rattle.zero_lookahead.specs.Begin.{none_pending, begun-words, begun-front, begun}
use Rattle.zero_lookahead.proofs.begin.begin.Goals as goal

pub clear_pending-requires : goal.clear_pending-requires
clear_pending-requires c = let S = c.requires.some_standing_any.stands in pending_fits S.part 0 _ (omega (arith, floats_count S))

pub overflow_add-at-4 : goal.overflow_add-at-4
overflow_add-at-4 c =
    let S = c.requires.some_standing_any in
    let w = c.args.words.now in
    let l : c.leaves_for-leaves.result ≡ leaves_in w = c.leaves_for-leaves.ensures ∙ ap (λ (n : ℕ). leaves_for (2 * n)) c.word-edges.ensures.0 in
    let r = S.stands.part.room in
    omega (arith, r, l, c.word-edges.ensures.0, c.word-nodes.ensures.0)

pub fill_leaves-requires : goal.fill_leaves-requires
fill_leaves-requires c =
    let S = c.requires.some_standing_any in
    let w = c.args.words.now in
    let l : c.leaves_for-leaves.result ≡ leaves_in w = c.leaves_for-leaves.ensures ∙ ap (λ (n : ℕ). leaves_for (2 * n)) c.word-edges.ensures.0 in
    let r = S.stands.part.room in record {
      some_standing_any = record {
        settings = S.settings;
        given = S.given;
        graph = S.graph;
        evidence = S.evidence;
        store = S.store;
        stands = none_pending S.stands c.clear_pending.new.w c.clear_pending.ensures;
      };
      at_value = (omega (arith, l, c.word-edges.ensures.0, c.word-nodes.ensures.0), l);
    }

pub overflow_mul-leaves : goal.overflow_mul-leaves
overflow_mul-leaves c =
    let S = c.requires.some_standing_any in
    let w = c.args.words.now in
    let l : c.leaves_for-leaves.result ≡ leaves_in w = c.leaves_for-leaves.ensures ∙ ap (λ (n : ℕ). leaves_for (2 * n)) c.word-edges.ensures.0 in
    let r = S.stands.part.room in
    omega (arith, r, l, c.word-edges.ensures.0, c.word-nodes.ensures.0, c.fill_leaves.auto.words)

pub overflow_add-at-5 : goal.overflow_add-at-5
overflow_add-at-5 c =
    let S = c.requires.some_standing_any in
    let w = c.args.words.now in
    let l : c.leaves_for-leaves.result ≡ leaves_in w = c.leaves_for-leaves.ensures ∙ ap (λ (n : ℕ). leaves_for (2 * n)) c.word-edges.ensures.0 in
    let r = S.stands.part.room in
    omega (arith, r, l, c.word-edges.ensures.0, c.word-nodes.ensures.0, c.fill_leaves.auto.words)

pub slice_bounds-fill-end : goal.slice_bounds-fill-end
slice_bounds-fill-end c =
    let S = c.requires.some_standing_any in
    let w = c.args.words.now in
    let l : c.leaves_for-leaves.result ≡ leaves_in w = c.leaves_for-leaves.ensures ∙ ap (λ (n : ℕ). leaves_for (2 * n)) c.word-edges.ensures.0 in
    let r = S.stands.part.room in
    omega (arith, r, l, c.word-edges.ensures.0, c.word-nodes.ensures.0, c.fill_leaves.auto.words)

pub fill-requires : goal.fill-requires
fill-requires c =
    let S = c.requires.some_standing_any in
    let w = c.args.words.now in
    let l : c.leaves_for-leaves.result ≡ leaves_in w = c.leaves_for-leaves.ensures ∙ ap (λ (n : ℕ). leaves_for (2 * n)) c.word-edges.ensures.0 in
    let r = S.stands.part.room in
    let v = c.fill_leaves.new.words in
    let k = c.leaves_for-leaves.result in
    let at = c.args.out + (6 * c.word-edges.result + 1) + c.word-nodes.result in
    let z : at + 2 * k - at ≡ 2 * k = omega arith in
    (omega (arith, l, leaves-some (2 * get_or w 1 0)), length-region v at (at + 2 * k - at) (omega (arith, r, l, c.word-edges.ensures.0, c.word-nodes.ensures.0, c.fill_leaves.auto.words)) ∙ z)

pub returns : goal.returns
returns c =
    let S = c.requires.some_standing_any in
    let w = c.args.words.now in
    let l : c.leaves_for-leaves.result ≡ leaves_in w = c.leaves_for-leaves.ensures ∙ ap (λ (n : ℕ). leaves_for (2 * n)) c.word-edges.ensures.0 in
    let a = c.args in
    let v = c.fill_leaves in
    let k = c.leaves_for-leaves.result in
    let at = a.out + (6 * c.word-edges.result + 1) + c.word-nodes.result in
    let n = at + 2 * k - at in
    let p : at ≡ queue_at w a.out = omega (arith, c.word-edges.ensures.0, c.word-nodes.ensures.0) in
    let m : n ≡ 2 * k = omega arith in
    let f = c.fill in
    let u = c.clear_pending in
    let e = v.ensures S.settings S.graph S.evidence S.store (none_pending S.stands u.new.w u.ensures) S.given in record {
      kept_front = subst (KeptFront a.out w) (sym (begun-words S.stands k at n l p m v.new.words f.new.words e f.auto.words f.ensures))
          (begun-front S.stands k at n l p m v.new.words f.new.words e f.auto.words f.ensures);
      runs = (λ s t evidence x R G.
          let g = v.ensures s t evidence x (none_pending R u.new.w u.ensures) G in
          subst (λ (y : List ℕ). Runs s t a.out evidence (begin_loop s t x) y u.new.w) (sym (begun-words R k at n l p m v.new.words f.new.words g f.auto.words f.ensures))
          (begun R k at n l p m v.new.words f.new.words g f.auto.words f.ensures u.new.w u.ensures));
    }
