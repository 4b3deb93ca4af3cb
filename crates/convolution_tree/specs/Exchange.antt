-- Ranges exchanged and cleared: what the parts of the whole leave.
use Rattle.std.specs.Prelude.{◌≡◌, List, ◌++◌, ℕ, ◌+◌, ◌-◌, ◌≤◌, length, take, drop, replicate, Float}
use Rattle.std.proofs.Common.{sym, ap, ◌∙◌, append_assoc, zero-add, arith, length-append, length-drop, take_at, drop_at, drop-drop, length-take-le}
use Rattle.std.proofs.lemmas.List.{length-replicate, length-map, take-append-le, take-append-drop}
use Rattle.std.proofs.lemmas.Slice.{between_is, drop-append-drop}
use Rattle.std.proofs.Math.Seq.{take-append-add}
use Rattle.list_laws.specs.Part.{region, length-region}
use Rattle.list_laws.specs.Put.{put, put-part}
use Rattle.definition.specs.Floats.{zeroᶠ, avoid_underflow}
use Rattle.definition.specs.Vectors.{avoid_underflow_all}
use Rattle.convolution_tree.specs.WayDown.{put-start}

-- a range raised, and what follows it cleared
pub length_raised : (l : List Float) → length (avoid_underflow_all l) ≡ length l
unfolding avoid_underflow_all
length_raised l = length-map l avoid_underflow

pub finished :
    (w v u : List Float) (e end : ℕ) → e ≤ end → end ≤ length w → v ≡ avoid_underflow_all (take e w) → u ≡ replicate (length (take (end - e) (drop e (v ++ drop e w)))) zeroᶠ →
    take e (v ++ drop e w) ++ (u ++ drop (end - e) (drop e (v ++ drop e w))) ≡ put w 0 (avoid_underflow_all (take e w) ++ replicate (end - e) zeroᶠ)
unfolding put
finished w v u e end h fits f g =
    let x = avoid_underflow_all (take e w) in
    let z = replicate (end - e) zeroᶠ in
    let lx : length x ≡ e = length_raised (take e w) ∙ length-take-le e w (omega arith) in
    let lv : length v ≡ e = ap length f ∙ lx in
    let ld : length (drop e w) ≡ length w - e = length-drop e w in
    let d : drop e (v ++ drop e w) ≡ drop e w = drop_at v (drop e w) e lv in
    let n : length (take (end - e) (drop e (v ++ drop e w))) ≡ end - e = ap (λ (y : List Float). length (take (end - e) y)) d ∙ length-take-le (end - e) (drop e w) (omega arith) in
    let y : e + (end - e) ≡ 0 + length (x ++ z) = omega (arith, length-append x z, length-replicate (end - e) zeroᶠ) in
    ap (λ (y : List Float). y ++ (u ++ drop (end - e) (drop e (v ++ drop e w)))) (take_at v (drop e w) e lv ∙ f)
    ∙ ap (λ (y : List Float). x ++ (y ++ drop (end - e) (drop e (v ++ drop e w)))) (g ∙ ap (λ (k : ℕ). replicate k zeroᶠ) n)
    ∙ ap (λ (y : List Float). x ++ (z ++ drop (end - e) y)) d
    ∙ ap (λ (y : List Float). x ++ (z ++ y)) (drop-drop (end - e) e w)
    ∙ sym (append_assoc x z (drop (e + (end - e)) w))
    ∙ ap (λ (k : ℕ). (x ++ z) ++ drop k w) y

-- the start and a range behind it, f and b being the parts up to that range and from it on
pub exchanged :
    (w f b x y : List Float) (at n : ℕ) → n ≤ at → at + n ≤ length w → f ≡ take at w → b ≡ drop at w → x ≡ take n b → y ≡ take n f →
    (x ++ drop n f) ++ (y ++ drop n b) ≡ put (put w 0 (region w at n)) at (region w 0 n)
exchanged w f b x y at n below fits p q e g =
    let r = region w at n in
    let s = region w 0 n in
    let v = r ++ drop n w in
    let lr : length r ≡ n = length-region w at n fits in
    let ls : length s ≡ n = length-region w 0 n (omega arith) in
    let k : at ≡ length r + (at - n) = omega arith in
    let first : put w 0 r ≡ v = put-start w r ∙ ap (λ (i : ℕ). r ++ drop i w) (zero-add (length r) ∙ lr) in
    let front : take at v ≡ r ++ drop n (take at w) = ap (λ (i : ℕ). take i v) k ∙ take-append-add r (drop n w) (at - n) ∙ ap (λ (l : List Float). r ++ l) (between_is w n at) in
    let back : drop at v ≡ drop at w = drop-append-drop n w r at below lr in
    let la : length (take at w) ≡ at = length-take-le at w (omega arith) in
    let moved : take n (take at w) ≡ s = sym (take-append-le n (take at w) (drop at w) (omega arith)) ∙ ap (take n) (take-append-drop at w) in
    let whole : take at v ++ (s ++ drop n (drop at v)) ≡ put v at s = put-part v s at n ls in
    cc
