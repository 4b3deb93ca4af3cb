-- `array_utils::message::VariableMessage::log_normalize` meets its contract: each argument of `exp` is at most 0.
use mathlib.Core.Path.{◌≡◌, sym, subst, subst₂}
use lib.Dec.{T}
use lib.Ieee.{Float, le}
use Rattle.definition.specs.Floats.{◌⊕◌, ◌⊖◌, zeroᶠ, maxᶠ, ln, exp}
use Rattle.definition.specs.Vectors.{binary, log_normalize}
use Rattle.message_bounds.specs.LogNormalize.{log_sum, left_below, right_below, left-rest, right_rest}
use Rattle.array_utils.proofs.message.VariableMessage.log_normalize.Goals as goal
use Rattle.array_utils.proofs.message.VariableMessage.log_normalize.Goals.{After-ln-log_sum_exp}

-- ---- with what the calls ensure
diff : (x a b m : Float) → m ≡ maxᶠ a b → T (le (x ⊖ maxᶠ a b) zeroᶠ) → T (le (x ⊖ m) zeroᶠ)
diff x a b m e h = subst (λ (z : Float). T (le (x ⊖ z) zeroᶠ)) (sym e) h

rest : (x a b m s : Float) → m ≡ maxᶠ a b → s ≡ log_sum a b → T (le (x ⊖ maxᶠ a b ⊖ log_sum a b) zeroᶠ) → T (le (x ⊖ m ⊖ s) zeroᶠ)
rest x a b m s e f h = subst₂ (λ (z w : Float). T (le (x ⊖ z ⊖ w) zeroᶠ)) (sym e) (sym f) h

summed : (a b m ea eb s : Float) → m ≡ maxᶠ a b → ea ≡ exp (a ⊖ m) → eb ≡ exp (b ⊖ m) → s ≡ ln (ea ⊕ eb) → s ≡ log_sum a b
summed a b m ea eb s e p q r = rw (r, p, q, e)

both : (a b m s u v : Float) → m ≡ maxᶠ a b → s ≡ log_sum a b → u ≡ exp (a ⊖ m ⊖ s) → v ≡ exp (b ⊖ m ⊖ s) → binary u v ≡ log_normalize a b
unfolding log_normalize
both a b m s u v e f p q = rw (p, q, f, e)

-- the logarithm, where it is known
known : (c : After-ln-log_sum_exp) → c.ln-log_sum_exp.result ≡ log_sum c.args.self.absent c.args.self.present
known c =
    let x = c.args.self in
    summed x.absent x.present c.max-largest.result c.exp-ea.result c.exp-eb.result c.ln-log_sum_exp.result c.max-largest.ensures c.exp-ea.ensures c.exp-eb.ensures c.ln-log_sum_exp.ensures

pub exp-ea-requires : goal.exp-ea-requires
exp-ea-requires c =
    let x = c.args.self in
    let p = c.requires.t in
    diff x.absent x.absent x.present c.max-largest.result c.max-largest.ensures (left_below x.absent x.present p.0 p.1)

pub exp-eb-requires : goal.exp-eb-requires
exp-eb-requires c =
    let x = c.args.self in
    let p = c.requires.t in
    diff x.present x.absent x.present c.max-largest.result c.max-largest.ensures (right_below x.absent x.present p.0 p.1)

pub exp-requires : goal.exp-requires
exp-requires c =
    let x = c.args.self in
    let p = c.requires.t in
    rest x.absent x.absent x.present c.max-largest.result c.ln-log_sum_exp.result c.max-largest.ensures (known c) (left-rest x.absent x.present p.0 p.1)

pub exp-requires-2 : goal.exp-requires-2
exp-requires-2 c =
    let x = c.args.self in
    let p = c.requires.t in
    rest x.present x.absent x.present c.max-largest.result c.ln-log_sum_exp.result c.max-largest.ensures (known c.before) (right_rest x.absent x.present p.0 p.1)

pub returns : goal.returns
returns c =
    let x = c.args.self in
    both x.absent x.present c.max-largest.result c.ln-log_sum_exp.result c.exp.result c.exp-2.result c.max-largest.ensures (known c.before.before) c.exp.ensures c.exp-2.ensures
