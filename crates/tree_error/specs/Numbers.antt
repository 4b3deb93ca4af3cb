-- The numbers of the layers of a tree of at most 64 leaves: the parts in 2 ^ 24, and the units beside them, by which its vectors may be off,
-- the least that its likelihoods are, and the parts by which those may be off.
use Rattle.std.specs.Prelude.{◌≡◌, ℕ, zero, suc, ◌+◌, ◌-◌, ◌*◌, ◌^◌, ◌≤◌, ◌<◌}
use Rattle.std.proofs.Common.{ap, ◌∙◌, arith}
use Rattle.float_laws.specs.Error.{val32}
use Rattle.float_laws.specs.Table.{upto_le}
use Rattle.definition.specs.Floats.{c}
use Rattle.message_bounds.specs.Trees.{width, bound}

-- the way up
abbrev pub parts : ℕ → ℕ
parts zero = 1
parts (suc q) = parts q + parts q + 3 + 4 * width q + 1 + 2

abbrev pub extra : ℕ → ℕ
extra zero = 1
extra (suc q) = 12 * extra q + 4 * width q + 1

-- the way down, where all entries are so large that units are few parts of them
abbrev pub least : ℕ → ℕ
least q = bound 524288 q

abbrev pub lower : ℕ → ℕ → ℕ
lower q d = parts q + d + 3 + 4 * width q + 1 + 260 + 2 + 36

-- so many layers below layer 6, which has those of a message normalised
abbrev parts_below : ℕ → ℕ
parts_below zero = 37
parts_below (suc k) = lower (5 - k) (parts_below k)

abbrev pub down_parts : ℕ → ℕ
down_parts q = parts_below (6 - q)

pub down_parts-is : (q : ℕ) → q < 6 → lower q (down_parts (suc q)) ≡ down_parts q
down_parts-is q h =
    ap (λ (i : ℕ). lower i (down_parts (suc q))) (let e : q ≡ 5 - (6 - suc q) = omega arith in e)
    ∙ ap parts_below (let e : suc (6 - suc q) ≡ 6 - q = omega arith in e)

-- ---- what fits
pub record Fits (q : ℕ) : Type 0 where
  pub small : parts q ≤ 3300
  pub units : 66 * extra q * 1048576 ≤ 2 ^ 149
  pub join_small : 2 * parts q + 4 * width q + 4 ≤ 4096
  pub join_units : (10 * extra q + 2 * width q) * 262144 ≤ 2 ^ 149
  pub root_room : 650 * least q ≤ 7 * val32 c
  pub root_small : 37 ≤ down_parts q
  pub down_small : parts q + down_parts (suc q) + 4 * width q + 400 ≤ 4096
  pub down-units : 524288 * (5 * extra q + 2 * width q) ≤ 7 * least (suc q)

pub fits-at : (q : ℕ) → q ≤ 6 → Fits q
fits-at q h =
    let l : q < 7 = omega arith in
    record {
      small = upto_le parts (λ (i : ℕ). 3300) 7 tt q l;
      units = upto_le (λ (i : ℕ). 66 * extra i * 1048576) (λ (i : ℕ). 2 ^ 149) 7 tt q l;
      join_small = upto_le (λ (i : ℕ). 2 * parts i + 4 * width i + 4) (λ (i : ℕ). 4096) 7 tt q l;
      join_units = upto_le (λ (i : ℕ). (10 * extra i + 2 * width i) * 262144) (λ (i : ℕ). 2 ^ 149) 7 tt q l;
      root_room = upto_le (λ (i : ℕ). 650 * least i) (λ (i : ℕ). 7 * val32 c) 7 tt q l;
      root_small = upto_le (λ (i : ℕ). 37) down_parts 7 tt q l;
      down_small = upto_le (λ (i : ℕ). parts i + down_parts (suc i) + 4 * width i + 400) (λ (i : ℕ). 4096) 7 tt q l;
      down-units = upto_le (λ (i : ℕ). 524288 * (5 * extra i + 2 * width i)) (λ (i : ℕ). 7 * least (suc i)) 7 tt q l;
    }
