-- A tree built in scratch: zeros before, what it sends afterwards, and zeros behind that.
use Rattle.std.specs.Prelude.{ℕ, zero, suc, ◌+◌, ◌-◌, ◌*◌, ◌≤◌, ◌<◌, ◌≡◌, refl, Float, get_or, replicate}
use Rattle.std.proofs.Math.Decide.{dec_lt}
use Rattle.std.proofs.Common.{arith, sym, ◌∙◌, length-append, length-drop, drop_of_length-le, ext_get_or, drop_at, length-take-le, get_or-append-add}
use Rattle.std.proofs.Math.Path.{ap}
use Rattle.std.proofs.Math.Logic.{by_cases}
use mathlib.Core.List.{List, ◌∷◌, ◌++◌}
use Rattle.std.specs.Float.{nan}
use Rattle.std.proofs.Math.ListN.{length, take, drop, get_or-append}
use Rattle.std.proofs.lemmas.List.{length-replicate, take-append-le, drop-append-le}
use Rattle.std.proofs.Math.Seq.{take-append-add}
use Rattle.definition.specs.Floats.{zeroᶠ}
use Rattle.definition.specs.ConvolutionTree.{tree_messages}
use Rattle.graph_laws.specs.Flat.{flat}
use Rattle.graph_laws.specs.Lists.{append_none}
use Rattle.list_laws.specs.Part.{region, get_d_region, length-region}
use Rattle.list_laws.specs.Put.{put, put_is, put_in, put-below, put-above, put-part, length-put}
use Rattle.convolution_tree.specs.Nodes.{nodes}
use Rattle.convolution_tree.specs.Tree.{scratch_len}
use Rattle.convolution_tree.specs.Sent.{sent-length}
use Rattle.sweeps.specs.SweepCopies.{zero-at}

-- what a tree over n grades sends, of what it holds: its factor's message, then the grades', two floats each
abbrev pub built_row : ℕ → List Float → List Float
built_row n row = flat (tree_messages (take (n + 1) row) (nodes 2 n (drop (n + 1) row)))

pub record Building (w : List Float) (from n scratch : ℕ) : Type 0 where
  pub two : 2 ≤ n
  pub few : n ≤ 128
  pub below : from + (3 * n + 1) ≤ scratch
  pub room : scratch + 1664 ≤ length w
  pub zeros : region w scratch 1664 ≡ replicate 1664 zeroᶠ

nodes-front : (n : ℕ) (l r : List Float) → 2 * n ≤ length l → nodes 2 n (l ++ r) ≡ nodes 2 n l
nodes-front zero l r h = refl
nodes-front (suc n) l r h =
    ap (λ (u : List Float). u ∷ nodes 2 n (drop 2 (l ++ r))) (take-append-le 2 l r (omega arith))
    ∙ ap (λ (u : List Float). take 2 l ∷ nodes 2 n u) (drop-append-le 2 l r (omega arith))
    ∙ ap (λ (u : List (List Float)). take 2 l ∷ u) (nodes-front n (drop 2 l) r (simp length-drop (omega arith)))

-- only the messages are read
pub built-front : (n : ℕ) (row r : List Float) → length row ≡ 3 * n + 1 → built_row n (row ++ r) ≡ built_row n row
built-front n row r h =
    ap (λ (u : List Float). flat (tree_messages u (nodes 2 n (drop (n + 1) (row ++ r))))) (take-append-le (n + 1) row r (omega arith))
    ∙ ap (λ (u : List Float). flat (tree_messages (take (n + 1) row) (nodes 2 n u))) (drop-append-le (n + 1) row r (omega arith))
    ∙ ap (λ (u : List (List Float)). flat (tree_messages (take (n + 1) row) u)) (nodes-front n (drop (n + 1) row) r (simp length-drop (omega arith)))

put_whole : (l s : List Float) → length s ≡ length l → put l 0 s ≡ s
unfolding put
put_whole l s e = ap (λ (u : List Float). s ++ u) (drop_of_length-le l (let z : length l ≤ 0 + length s = omega arith in z)) ∙ append_none s

module _ (w : List Float) (from n scratch : ℕ) (B : Building w from n scratch) where
  abbrev m : ℕ
  m = 3 * n + 1

  abbrev row : List Float
  row = region w from (3 * n + 1)

  row-long : length row ≡ m
  row-long = length-region w from m (omega (arith, B.below, B.room))

  -- what is zero
  zero-there : (j : ℕ) → j < 1664 → get_or w (scratch + j) nan ≡ zeroᶠ
  zero-there j h = sym (get_d_region w scratch 1664 j nan h) ∙ ap (λ (u : List Float). get_or u j nan) B.zeros ∙ zero-at 1664 j h

  behind : (len : ℕ) → m + len ≤ 1664 → region w (scratch + m) len ≡ replicate len zeroᶠ
  behind len h =
      let k : length (region w (scratch + m) len) ≡ len = length-region w (scratch + m) len (omega (arith, B.room)) in
      ext_get_or nan (region w (scratch + m) len) (replicate len zeroᶠ) (k ∙ sym (length-replicate len zeroᶠ))
      (λ i q.
      get_d_region w (scratch + m) len i nan (omega arith) ∙ ap (λ (j : ℕ). get_or w j nan) (let z : scratch + m + i ≡ scratch + (m + i) = omega arith in z) ∙ zero-there (m + i) (omega arith)
      ∙ sym (zero-at len i (omega arith)))

  -- the lent part before the tree is built
  lent : (len : ℕ) → m + len ≤ 1664 → region (put w scratch row) scratch (m + len) ≡ row ++ replicate len zeroᶠ
  unfolding put
  lent len h =
      ap (take (m + len)) (drop_at (take scratch w) (row ++ drop (scratch + length row) w) scratch (length-take-le scratch w (omega (arith, B.room))))
      ∙ ap (λ (j : ℕ). take (j + len) (row ++ drop (scratch + length row) w)) (sym row-long)
      ∙ take-append-add row (drop (scratch + length row) w) len
      ∙ ap (λ (j : ℕ). row ++ take len (drop (scratch + j) w)) row-long
      ∙ ap (λ (u : List Float). row ++ u) (behind len h)

  -- zeros put behind are zeros that were there
  back : (f : List Float) (len : ℕ) → length f ≡ m → m + len ≤ 1664 → put (put w scratch row) scratch (f ++ replicate len zeroᶠ) ≡ put w scratch f
  back f len e h =
      let u = put w scratch row in
      let z = replicate len zeroᶠ in
      let k : length (f ++ z) ≡ m + len = length-append f z ∙ omega (arith, length-replicate len zeroᶠ) in
      let l : length u ≡ length w = length-put w scratch row (omega (arith, row-long, B.room)) in
      put_is nan (put u scratch (f ++ z)) w scratch f (omega (arith, B.room)) (length-put u scratch (f ++ z) (omega (arith, B.room)) ∙ l)
      (λ i q. put_in u scratch (f ++ z) nan i (omega (arith, B.room)) (omega arith) ∙ get_or-append f z nan i q)
      (λ j q. put-below u scratch (f ++ z) nan j (omega (arith, B.room)) q ∙ put-below w scratch row nan j (omega (arith, B.room)) q)
      (λ j q.
      by_cases (dec_lt j (scratch + (m + len)))
      (λ (a : j < scratch + (m + len)).
      let i = j - scratch - m in
      let x : j ≡ scratch + (length f + (j - scratch - m)) = omega arith in
      let y : j ≡ scratch + (j - scratch) = omega arith in
      ap (λ (g : ℕ). get_or (put u scratch (f ++ z)) g nan) x
      ∙ put_in u scratch (f ++ z) nan (length f + (j - scratch - m)) (omega (arith, B.room)) (omega arith)
      ∙ get_or-append-add f z (j - scratch - m) nan
      ∙ zero-at len (j - scratch - m) (omega arith)
      ∙ sym (zero-there (j - scratch) (omega arith))
      ∙ ap (λ (g : ℕ). get_or w g nan) (sym y))
      (λ a. put-above u scratch (f ++ z) nan j (omega (arith, B.room)) (omega arith) ∙ put-above w scratch row nan j (omega (arith, B.room)) (omega (arith, row-long))))

  -- as the code leaves it: the lent part back in its place
  pub built-is :
      (len g : ℕ) (u x r : List Float) → len ≡ scratch_len n → len ≤ 1279 → g ≡ m + len → u ≡ put w scratch row →
      x ≡ put (region u scratch g) 0 (built_row n (region u scratch g) ++ replicate (scratch_len n) zeroᶠ) → r ≡ take scratch u ++ (x ++ drop g (drop scratch u)) → r ≡ put w scratch (built_row n row)
  built-is len g u x r e h c d y z =
      let k : m + len ≤ 1664 = omega (arith, B.few) in
      let o = row ++ replicate len zeroᶠ in
      let ol : length o ≡ m + len = length-append row (replicate len zeroᶠ) ∙ omega (arith, row-long, length-replicate len zeroᶠ) in
      let p : region u scratch g ≡ o = ap (λ (v : List Float). region v scratch g) d ∙ ap (region (put w scratch row) scratch) c ∙ lent len k in
      let fl : length (built_row n o) ≡ m = sent-length o n B.two B.few (omega (arith, e, ol)) in
      let xl : length (built_row n o ++ replicate len zeroᶠ) ≡ length o = length-append (built_row n o) (replicate len zeroᶠ) ∙ omega (arith, fl, ol, length-replicate len zeroᶠ) in
      let q : x ≡ built_row n o ++ replicate len zeroᶠ =
      y ∙ ap (λ (v : List Float). put v 0 (built_row n v ++ replicate (scratch_len n) zeroᶠ)) p ∙ ap (λ (i : ℕ). put o 0 (built_row n o ++ replicate i zeroᶠ)) (sym e) ∙ put_whole o (built_row n o ++ replicate len zeroᶠ) xl in
      let xg : length x ≡ g = ap length q ∙ xl ∙ ol ∙ sym c in
      z ∙ put-part u x scratch g xg ∙ ap (λ (v : List Float). put v scratch x) d ∙ ap (put (put w scratch row) scratch) q ∙ back (built_row n o) len fl k
      ∙ ap (put w scratch) (built-front n row (replicate len zeroᶠ) row-long)

  -- how much it sends, and what was there
  pub built-long : length (built_row n row) ≡ m
  built-long =
      let o = row ++ replicate (scratch_len n) zeroᶠ in
      ap length (sym (built-front n row (replicate (scratch_len n) zeroᶠ) row-long))
      ∙ sent-length o n B.two B.few (omega (arith, row-long, length-append row (replicate (scratch_len n) zeroᶠ), length-replicate (scratch_len n) zeroᶠ))

  pub zeros-front : region w scratch m ≡ replicate m zeroᶠ
  zeros-front =
      let k : length (region w scratch m) ≡ m = length-region w scratch m (omega (arith, B.room, B.few)) in
      ext_get_or nan (region w scratch m) (replicate m zeroᶠ) (k ∙ sym (length-replicate m zeroᶠ)) (λ i q. get_d_region w scratch m i nan (omega arith) ∙ zero-there i (omega (arith, B.few)) ∙ sym (zero-at m i (omega arith)))
