-- A tree built anew in a sweep: its messages in the new row, its incoming ones in the row of builds, and the scratch as it was.
use Prim.Native.Nat.{ℕ, zero, suc, ◌+◌, ◌-◌, ◌*◌, ◌≤◌, ◌<◌}
use Rattle.std.proofs.Math.Decide.{dec_lt}
use Rattle.std.proofs.Common.{arith, sym, ◌∙◌, inl}
use Rattle.std.specs.Prelude.{◌≡◌, Bool, true, false, Float, get_or, replicate}
use Rattle.std.proofs.Math.Path.{refl, ap}
use Rattle.std.proofs.Math.Logic.{by_cases}
use Rattle.std.proofs.Math.Option.{none, some}
use mathlib.Core.List.{List}
use Rattle.std.specs.Float.{nan}
use Rattle.std.proofs.Math.ListN.{length}
use Rattle.std.proofs.lemmas.List.{length-replicate}
use Rattle.definition.specs.Floats.{zeroᶠ}
use Rattle.definition.specs.Vectors.{Message}
use Rattle.definition.specs.Messages.{LastBuild, needs_rebuild}
use Rattle.list_laws.specs.Part.{region, length-region}
use Rattle.list_laws.specs.Put.{put, put_is, put_in, put-below, put-above, put_again, put-region, region_in, length-put}
use Rattle.messages.specs.LayoutPuts.{puts, puts_ext, length-puts, region-puts}
use Rattle.messages.specs.Rebuild.{tree_row}
use Rattle.sweeps.specs.Sweep.{place_of}
use Rattle.sweeps.specs.SweepCopies.{Scattering, scattered, kept_sent, held_at, held_long}
use Rattle.sweeps.specs.SweepBuild.{Building, built_row, built-long, zeros-front}

-- ---- two ranges that lie apart are put in either order
module _ {A : Type 0} (d : A) where
  pub put_swap : (u : List A) (a b : ℕ) (s t : List A) → a + length s ≤ b → b + length t ≤ length u → put (put u a s) b t ≡ put (put u b t) a s
  put_swap u a b s t h g =
      let l : length (put u a s) ≡ length u = length-put u a s (omega arith) in
      let k : length (put u b t) ≡ length u = length-put u b t g in
      put_is d (put (put u a s) b t) (put u b t) a s (omega arith) (length-put (put u a s) b t (omega arith) ∙ l ∙ sym k)
      (λ i q. put-below (put u a s) b t d (a + i) (omega arith) (omega arith) ∙ put_in u a s d i (omega arith) q)
      (λ j q. put-below (put u a s) b t d j (omega arith) (omega arith) ∙ put-below u a s d j (omega arith) q ∙ sym (put-below u b t d j (omega arith) (omega arith)))
      (λ j q.
      by_cases (dec_lt j b)
      (λ (z : j < b). put-below (put u a s) b t d j (omega arith) z ∙ put-above u a s d j (omega arith) q ∙ sym (put-below u b t d j (omega arith) z))
      (λ z.
      by_cases (dec_lt j (b + length t))
      (λ (y : j < b + length t).
      let e : j ≡ b + (j - b) = omega arith in
      ap (λ (i : ℕ). get_or (put (put u a s) b t) i d) e ∙ put_in (put u a s) b t d (j - b) (omega arith) (omega arith) ∙ sym (put_in u b t d (j - b) (omega arith) (omega arith)) ∙ ap (λ (i : ℕ). get_or (put u b t) i d) (sym e))
      (λ y. put-above (put u a s) b t d j (omega arith) (omega arith) ∙ put-above u a s d j (omega arith) q ∙ sym (put-above u b t d j (omega arith) (omega arith)))))

  pub puts_swap : (u : List A) (at : ℕ → ℕ) (s : ℕ → List A) (n b : ℕ) (t : List A) → ((i : ℕ) → i < n → at i + length (s i) ≤ b) → b + length t ≤ length u → put (puts u at s n) b t ≡ puts (put u b t) at s n
  unfolding puts
  puts_swap u at s zero b t h g = refl
  puts_swap u at s (suc n) b t h g =
      let l : length (puts u at s n) ≡ length u = length-puts u at s n (λ i q. let z = h i (omega arith) in omega arith) in
      put_swap (puts u at s n) (at n) b (s n) t (h n (omega arith)) (omega arith)
      ∙ ap (λ (v : List A). put v (at n) (s n)) (puts_swap u at s n b t (λ i q. h i (omega arith)) g)

-- ---- the tree

abbrev pub held_row : List ℕ → ℕ → ℕ → List Float → List Float
held_row offsets f k w = region w (get_or offsets f 0) (3 * (k - 1) + 1)

-- its messages, cut as those that it holds
abbrev pub rebuilt_row : List ℕ → List ℕ → ℕ → ℕ → ℕ → List Float → List Float
rebuilt_row outs offsets l f k w = puts w (place_of outs offsets l f) (λ i. region (built_row (k - 1) (held_row offsets f k w)) (get_or offsets (f + i) 0 - get_or offsets f 0) (held_long offsets f i)) k

abbrev pub rebuilt_sent : List ℕ → List ℕ → ℕ → ℕ → ℕ → List Float → List Float
rebuilt_sent outs offsets l f k w = put (rebuilt_row outs offsets l f k w) (l + l + l + get_or offsets f 0) (held_row offsets f k w)

pub record Rebuilding (outs offsets : List ℕ) (l f k scratch : ℕ) (w : List Float) : Type 0 where
  pub building : Building w (get_or offsets f 0) (k - 1) scratch
  pub scatters : Scattering outs offsets l f k scratch (length w)
  pub ends : (i : ℕ) → i < k → get_or offsets (f + i + 1) 0 ≤ get_or offsets f 0 + (3 * (k - 1) + 1)
  pub held : get_or offsets f 0 + (3 * (k - 1) + 1) ≤ l
  pub behind : l + l + l + l ≤ scratch

module _ (outs offsets : List ℕ) (l f k scratch : ℕ) (w : List Float) (P : Rebuilding outs offsets l f k scratch w) where
  abbrev m : ℕ
  m = 3 * (k - 1) + 1

  abbrev made : List Float
  made = built_row (k - 1) (held_row offsets f k w)

  abbrev piece : ℕ → List Float
  piece i = region made (get_or offsets (f + i) 0 - get_or offsets f 0) (held_long offsets f i)

  made-long : length made ≡ m
  made-long = built-long w (get_or offsets f 0) (k - 1) scratch P.building

  piece-long : (i : ℕ) → i < k → length (piece i) ≡ held_long offsets f i
  piece-long i q = length-region made (get_or offsets (f + i) 0 - get_or offsets f 0) (held_long offsets f i) (omega (arith, made-long, P.ends i q, P.scatters.above i q, P.scatters.order i q))

  place : (i : ℕ) → i < k → place_of outs offsets l f i + length (piece i) ≤ l + l
  place i q = omega (arith, piece-long i q, P.scatters.fits i q)

  roomy : scratch + m ≤ length w
  roomy = omega (arith, P.building.room, P.building.few)

  -- the messages as they are read from scratch
  pub scattered-is : scattered outs offsets l f scratch (put w scratch made) k ≡ puts (put w scratch made) (place_of outs offsets l f) piece k
  scattered-is =
      puts_ext (put w scratch made) (place_of outs offsets l f) (place_of outs offsets l f) (λ i. region (put w scratch made) (held_at offsets f scratch i) (held_long offsets f i)) piece k (λ i q. refl)
      (λ i q. region_in nan w scratch made (get_or offsets (f + i) 0 - get_or offsets f 0) (held_long offsets f i) (omega (arith, made-long, roomy)) (omega (arith, made-long, P.ends i q, P.scatters.above i q, P.scatters.order i q)))

  -- and the scratch cleared
  pub cleared-is : put (scattered outs offsets l f scratch (put w scratch made) k) scratch (replicate m zeroᶠ) ≡ rebuilt_row outs offsets l f k w
  cleared-is =
      let z = replicate m zeroᶠ in
      let n : length z ≡ m = length-replicate m zeroᶠ in
      ap (λ (v : List Float). put v scratch z) scattered-is
      ∙ puts_swap nan (put w scratch made) (place_of outs offsets l f) piece k scratch z (λ i q. let y = place i q in omega (arith, P.behind)) (omega (arith, n, roomy, length-put w scratch made (omega (arith, made-long, roomy))))
      ∙ ap (λ (v : List Float). puts v (place_of outs offsets l f) piece k)
      (put_again nan w scratch made z (omega (arith, made-long, roomy)) (n ∙ sym made-long)
      ∙ ap (put w scratch) (sym (zeros-front w (get_or offsets f 0) (k - 1) scratch P.building))
      ∙ sym (put-region nan w scratch m roomy))

  pub rebuilt_is :
      (a : ℕ) (u v x r : List Float) → a ≡ get_or offsets f 0 → u ≡ put w scratch (built_row (k - 1) (region w a m)) → v ≡ scattered outs offsets l f scratch u k → x ≡ put v scratch (replicate m zeroᶠ) →
      r ≡ put x (l + l + l + a) (region x a m) → r ≡ rebuilt_sent outs offsets l f k w
  rebuilt_is a u v x r e p q c y =
      let g : x ≡ rebuilt_row outs offsets l f k w =
      c ∙ ap (λ (b : List Float). put b scratch (replicate m zeroᶠ)) (q ∙ ap (λ (b : List Float). scattered outs offsets l f scratch b k) (p ∙ ap (λ (i : ℕ). put w scratch (built_row (k - 1) (region w i m))) e)) ∙ cleared-is in
      y ∙ ap (λ (b : List Float). put b (l + l + l + a) (region b a m)) g ∙ ap (λ (i : ℕ). put (rebuilt_row outs offsets l f k w) (l + l + l + i) (region (rebuilt_row outs offsets l f k w) i m)) e
      ∙ ap (put (rebuilt_row outs offsets l f k w) (l + l + l + get_or offsets f 0))
      (region-puts nan w (place_of outs offsets l f) piece k (get_or offsets f 0) m (λ i z. let o = place i z in omega (arith, roomy, P.behind)) (omega (arith, P.building.below, roomy)) (λ i z. inl (omega (arith, P.held))))

-- ---- whether it is built anew, by the node's flag

abbrev pub built_of : ℕ → List Message → LastBuild
built_of zero ms = none
built_of (suc k) ms = some ms

abbrev pub needs_build : Float → ℕ → ℕ → ℕ → ℕ → List Float → Bool
needs_build tolerance flag l from n w = needs_rebuild tolerance (tree_row n (region w from (3 * n + 1))) (built_of flag (tree_row n (region w (l + l + l + from) (3 * n + 1))))

pub never-built : (tolerance : Float) (flag l from n : ℕ) (w : List Float) → flag ≡ 0 → true ≡ needs_build tolerance flag l from n w
unfolding needs_rebuild
never-built tolerance zero l from n w e = refl
never-built tolerance (suc k) l from n w e = absurd (let z : ⊥ = omega arith in z)

-- what a tree sends, by whether it is built anew
abbrev pub tree_sent : Bool → List ℕ → List ℕ → ℕ → ℕ → ℕ → List Float → List Float
tree_sent true outs offsets l f k w = rebuilt_sent outs offsets l f k w
tree_sent false outs offsets l f k w = kept_sent outs offsets l f w k
