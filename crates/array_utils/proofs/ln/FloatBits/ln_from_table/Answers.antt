-- `array_utils::ln::FloatBits::ln_from_table` meets its contract.
use mathlib.Core.Path.{◌≡◌, sym, ap, ◌∙◌, subst}
use mathlib.Core.Bool.{Bool, ◌&&◌}
use mathlib.Core.List.{List}
use Prim.Native.Nat.{ℕ, suc, ◌+◌, ◌<◌, ◌^◌}
use native.Mathlib.Numerals.{add-one}
use native.Mathlib.Omega.{arith}
use lib.Dec.{T, ltb, ltb→lt}
use lib.IntN.{ℤ, pos, ◌-ℤ◌}
use lib.ListN.{get_or}
use lib.Signed.{mag}
use lib.Ieee.{Float, nan, binary32, of_int, of_bits, in_float, minus}
use lib.Ieee.Fits.{and_l, and_r}
use mir.Syntax.{w32}
use mir.Val.{SFits, to_z, of_z}
use mir.ValLaws.{to_z_pos, to_z-of_z}
use Rattle.float_laws.specs.Table.{upto, upto-at}
use Rattle.float_laws.specs.Same.{sameℤ, sameℤ→eq}
use Rattle.definition.specs.Floats.{◌⊕◌, ◌⊖◌, ◌⊗◌, ◌⊘◌, ln2, of_nat, log_table_entry}
use Rattle.array_utils.specs.LogTable.{log_table, entry_at}
use Rattle.array_utils.proofs.ln.FloatBits.ln_from_table.Goals as goal

-- ---- the exponent, read as a signed number
abbrev scale : ℕ → ℤ
scale e = pos e -ℤ pos 127

fine : ℕ → Bool
fine e = ltb (mag (scale e)) (2 ^ 31) && (in_float binary32 (minus e 127) && sameℤ (scale e) (minus e 127))

all_fine : T (upto fine 256)
unfolding fine in_float
all_fine = tt

fine_at : (e : ℕ) → e < 256 → T (ltb (mag (scale e)) (2 ^ 31) && (in_float binary32 (minus e 127) && sameℤ (scale e) (minus e 127)))
unfolding fine
fine_at e h = upto-at fine 256 all_fine e h

same_at : (e : ℕ) → e < 256 → T (in_float binary32 (minus e 127) && sameℤ (scale e) (minus e 127))
same_at e h = and_r (ltb (mag (scale e)) (2 ^ 31)) (in_float binary32 (minus e 127) && sameℤ (scale e) (minus e 127)) (fine_at e h)

read : (e : ℕ) → e < 256 → to_z w32 e ≡ pos e
read e h = to_z_pos w32 e (omega arith)

fits-at : (e : ℕ) → e < 256 → SFits w32 (to_z w32 e -ℤ pos 127)
fits-at e h =
    subst (λ (z : ℤ). SFits w32 (z -ℤ pos 127)) (sym (read e h))
    (record { sfits = ltb→lt (mag (scale e)) (2 ^ 31) (and_l (ltb (mag (scale e)) (2 ^ 31)) (in_float binary32 (minus e 127) && sameℤ (scale e) (minus e 127)) (fine_at e h)) })

back : (e : ℕ) → e < 256 → to_z w32 (of_z w32 (to_z w32 e -ℤ pos 127)) ≡ minus e 127
back e h =
    to_z-of_z w32 (to_z w32 e -ℤ pos 127) (fits-at e h)
    ∙ ap (λ (z : ℤ). z -ℤ pos 127) (read e h)
    ∙ sameℤ→eq (scale e) (minus e 127) (and_r (in_float binary32 (minus e 127)) (sameℤ (scale e) (minus e 127)) (same_at e h))

-- what stands in the table
looked_up_lem : (t : List Float) (i : ℕ) → t ≡ log_table → i < 1025 → get_or t i nan ≡ log_table_entry i
looked_up_lem t i e h = ap (λ (l : List Float). get_or l i nan) e ∙ entry_at i h

-- the sum, by the exponent and the two entries
abbrev joined : ℤ → Float → Float → ℕ → Float
joined z a b f = of_int binary32 z ⊗ ln2 ⊕ a ⊕ of_nat f ⊘ of_nat (2 ^ 13) ⊗ (b ⊖ a)

joined_at : (y z : ℤ) (a b a' b' : Float) (f : ℕ) → y ≡ z → a ≡ a' → b ≡ b' → joined y a b f ≡ joined z a' b' f
joined_at y z a b a' b' f p q r = rw (p, q, r)

pub returns : goal.returns
unfolding of_bits of_int
returns c =
    let m = c.args.self in
    let t = c.args.table.now.entries in
    joined_at (to_z w32 (of_z w32 (to_z w32 m.exponent -ℤ pos 127))) (minus m.exponent 127) (get_or t m.index nan) (get_or t (m.index + 1) nan) (log_table_entry m.index) (log_table_entry (suc m.index)) m.fraction (back m.exponent c.requires.exponent_bound.0) (looked_up_lem t m.index c.args.table.now.is_log_table (omega (arith, c.requires.exponent_bound.1))) (looked_up_lem t (m.index + 1) c.args.table.now.is_log_table (omega (arith, c.requires.exponent_bound.1)) ∙ ap log_table_entry (add-one m.index))
