-- `array_utils::message::column_products` meets its contract: after i turns the products are those of the first i pairs.
use Rattle.std.proofs.Common.{◌≡◌, sym, ap, ◌∙◌, List, ℕ, ◌+◌, ◌*◌, ◌/◌, ◌≤◌, ◌<◌, add-one, arith, length, take, get_or, take_all}
use Rattle.std.specs.Prelude.{Float}
use Rattle.std.specs.Float.{nan}
use lib.Ieee.{of_bits}
use Rattle.definition.specs.Floats.{◌⊗◌}
use Rattle.definition.specs.Vectors.{product_of}
use Rattle.array_utils.specs.VectorLaws.{product-none, product_step}
use Rattle.array_utils.specs.Columns.{column, absents, presents, length-column, column-at}
use Rattle.array_utils.specs.Columns as columns
use Rattle.array_utils.proofs.message.column_products.Goals as goal

pub loop-i-init : goal.loop-i-init
unfolding of_bits
loop-i-init c = let l = c.args.rows.now in (product-none (absents l), product-none (presents l))

-- one more pair
more :
    (pick : Float → Float → Float) (l : List Float) (i : ℕ) (p : Float) →
    i < length l / 2 → p ≡ product_of (take i (column pick l)) → p ⊗ pick (get_or l (2 * i) nan) (get_or l (2 * i + 1) nan) ≡ product_of (take (i + 1) (column pick l))
more pick l i p h e =
    let x = pick (get_or l (2 * i) nan) (get_or l (2 * i + 1) nan) in
    ap (λ (q : Float). q ⊗ x) e
    ∙ ap (λ (y : Float). product_of (take i (column pick l)) ⊗ y) (sym (column-at pick l i (omega arith)))
    ∙ sym (product_step (column pick l) i (omega (arith, length-column pick l)))
    ∙ ap (λ (n : ℕ). product_of (take n (column pick l))) (sym (add-one i))

all : (pick : Float → Float → Float) (l : List Float) (i : ℕ) (p : Float) → length l / 2 ≤ i → p ≡ product_of (take i (column pick l)) → p ≡ product_of (column pick l)
all pick l i p h e = e ∙ ap product_of (take_all i (column pick l) (omega (arith, length-column pick l)))

pub loop-i-preserved : goal.loop-i-preserved
loop-i-preserved c =
    let s = c.loop-i in
    let l = c.args.rows.now in
    (more columns.absent l s.i s.absent (omega arith) s.invariant.0, more columns.present l s.i s.present (omega arith) s.invariant.1)

pub returns : goal.returns
returns c =
    let s = c.loop-i in
    let l = c.args.rows.now in
    (all columns.absent l s.i s.absent (omega arith) s.invariant.0, all columns.present l s.i s.present (omega arith) s.invariant.1)
