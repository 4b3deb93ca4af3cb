-- `array_utils::power::powers` meets its contract: before turn i the powers below i stand, and `bit` is the highest of i.
use Rattle.std.proofs.Common.{◌≡◌, refl, ap, subst, ◌∙◌, List, [], ◌∷◌, ℕ, ◌+◌, ◌-◌, ◌≤◌, ◌<◌, arith, length, length-set, get_or, set}
use Rattle.std.specs.Prelude.{Float}
use Rattle.std.specs.Float.{nan}
use lib.Ieee.{binary32, of_bits}
use Rattle.list_laws.specs.Write.{write, write-none}
use Rattle.list_laws.specs.Whole.{start-next, start-at}
use Rattle.definition.specs.Floats.{◌⊗◌, oneᶠ, powi_from, powi}
use Rattle.array_utils.specs.Counts.{count_written}
use Rattle.array_utils.specs.PowerLaws.{BitSquare, bit_first, bit_next, bit_power}
use Rattle.array_utils.proofs.power.powers.Goals as goal
use Rattle.array_utils.proofs.power.powers.Goals.{then-next-bit, else-next-bit}

-- the first, written again, stays
first_again : (l : List Float) (x : Float) → set l 0 x ≡ set (set l 0 x) 0 x
first_again [] x = refl
first_again (y ∷ ys) x = refl

pub loop-i-init : goal.loop-i-init
unfolding of_bits powi powi_from
loop-i-init c =
    let l = c.args.out.now in
    let first = set l 0 oneᶠ in
    record {
      power = bit_first c.args.base;
      least = omega arith;
      most = omega arith;
      stored = first_again l oneᶠ ∙ start-next first first (powi c.args.base) 0 oneᶠ (write-none _ _ _) refl;
    }

-- a turn
stored :
    {base square : Float} {bit i : ℕ} (l out : List Float) →
    BitSquare base bit square → bit ≤ i → i < bit + bit → i ≤ length l → out ≡ write l 0 i (powi base) → set out i (get_or out (i - bit) nan ⊗ square) ≡ write l 0 (i + 1) (powi base)
stored {base} {square} {bit} {i} l out B least most h e =
    start-next l out (powi base) i (get_or out (i - bit) nan ⊗ square) e
    (ap (λ (x : Float). x ⊗ square) (start-at l out (powi base) i (i - bit) nan e (omega arith) h) ∙ bit_power B (i - bit) i (omega arith) (omega arith))

pub loop-i-preserved : goal.loop-i-preserved
loop-i-preserved c =
    let l = c.loop-i in
    let v = l.invariant in
    let written = stored _ l.out v.power v.least v.most (omega arith) v.stored in
    elim c.if-next-bit.branch [
      | then-next-bit w ↦ (
          let e : l.bit + l.bit ≡ l.i + 1 = omega arith in
          rw (w.bit-is, w.square-is)
          record { power = subst (λ (n : ℕ). BitSquare c.args.base n (l.square ⊗ l.square)) e (bit_next v.power); least = omega arith; most = omega arith; stored = written }
          )
      | else-next-bit w ↦ rw (w.bit-is, w.square-is) record { power = v.power; least = omega arith; most = omega arith; stored = written }
    ]

pub returns : goal.returns
returns c =
    let l = c.loop-i in
    let e = length-set c.args.out.now 0 (of_bits binary32 1065353216) in
    count_written (powi c.args.base) nan _ l.out l.i (length c.args.out.now) l.invariant.stored (omega arith) e
