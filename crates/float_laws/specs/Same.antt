-- Two floats compared as data, by a test that computes: for equations of floats that one computed test shows over a range.
use Rattle.std.specs.Prelude.{◌≡◌, refl, Bool, true, false, ◌&&◌, ℕ, ℤ, pos, negsuc, T, eqb, Float}
use Rattle.std.proofs.Common.{ap, ◌∙◌, eqb→eq}
use Rattle.std.specs.Bool.{beq}
use Rattle.std.specs.Float.{nan, inf, fin}
use Rattle.std.specs.Float.Ieee.Fits.{and_l, and_r}

abbrev pub sameℤ : ℤ → ℤ → Bool
sameℤ (pos a) (pos b) = eqb a b
sameℤ (pos a) (negsuc b) = false
sameℤ (negsuc a) (pos b) = false
sameℤ (negsuc a) (negsuc b) = eqb a b

abbrev pub same : Float → Float → Bool
same nan nan = true
same nan (inf t) = false
same nan (fin t n d) = false
same (inf s) nan = false
same (inf s) (inf t) = beq s t
same (inf s) (fin t n d) = false
same (fin s m e) nan = false
same (fin s m e) (inf t) = false
same (fin s m e) (fin t n d) = beq s t && (eqb m n && sameℤ e d)

beq→eq : (s t : Bool) → T (beq s t) → s ≡ t
beq→eq true true h = refl
beq→eq true false h = absurd h
beq→eq false true h = absurd h
beq→eq false false h = refl

pub sameℤ→eq : (a b : ℤ) → T (sameℤ a b) → a ≡ b
sameℤ→eq (pos a) (pos b) h = ap pos (eqb→eq a b h)
sameℤ→eq (pos a) (negsuc b) h = absurd h
sameℤ→eq (negsuc a) (pos b) h = absurd h
sameℤ→eq (negsuc a) (negsuc b) h = ap negsuc (eqb→eq a b h)

pub same→eq : (x y : Float) → T (same x y) → x ≡ y
same→eq nan nan h = refl
same→eq nan (inf t) h = absurd h
same→eq nan (fin t n d) h = absurd h
same→eq (inf s) nan h = absurd h
same→eq (inf s) (inf t) h = ap inf (beq→eq s t h)
same→eq (inf s) (fin t n d) h = absurd h
same→eq (fin s m e) nan h = absurd h
same→eq (fin s m e) (inf t) h = absurd h
same→eq (fin s m e) (fin t n d) h =
    let a = and_l (beq s t) (eqb m n && sameℤ e d) h in
    let b = and_r (beq s t) (eqb m n && sameℤ e d) h in
    ap (λ (u : Bool). fin u m e) (beq→eq s t a) ∙ ap (λ (k : ℕ). fin t k e) (eqb→eq m n (and_l (eqb m n) (sameℤ e d) b)) ∙ ap (fin t n) (sameℤ→eq e d (and_r (eqb m n) (sameℤ e d) b))
