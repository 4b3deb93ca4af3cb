-- The beliefs of a bale, added one by one: no grade stands twice, so that each total gets what the definition has for its grade.
use Rattle.std.specs.Prelude.{ℕ, suc, ◌+◌, ◌*◌, ◌^◌, ◌≤◌, ◌<◌, ◌≡◌, refl, Bool, true, false, cond, List, [], ◌∷◌, ◌++◌, eqb, Float, length, get_or, drop, set}
use Rattle.std.proofs.Common.{arith, sym, ap, ◌∙◌, subst, length-set, drop_of_length-le, ext_get_or, drop-cons, get_or-set_same, get_or-set_other, eqb-true, eq-eqb, ne_eqb}
use Rattle.std.specs.Float.{nan}
use Rattle.std.proofs.lemmas.Bool.{eqb-false}
use Rattle.float_laws.specs.Interval.{In, in_finite}
use Rattle.definition.specs.Floats.{zeroᶠ, oneᶠ}
use Rattle.definition.specs.Vectors.{Message, entry}
use Rattle.definition.specs.Answer.{Belief, belief_numbers, belief_floats}
use Rattle.definition.specs.Tonnage.{share, share_among, add_each}
use Rattle.theorems.specs.Facts.{All, NoDup, TwoFloats}
use Rattle.weighing_laws.specs.Shares.{share-le}
use Rattle.weighing_laws.specs.Grams.{none_among}
use Rattle.weighing_laws.specs.Totals.{add-length, add_at}

-- ---- belief by belief

abbrev pub adding : ℕ → List ℕ → List Float → List ℕ → List ℕ
adding w [] fs ts = ts
adding w (n ∷ ns) [] ts = ts
adding w (n ∷ ns) (a ∷ []) ts = ts
adding w (n ∷ ns) (a ∷ p ∷ fs) ts = adding w ns fs (set ts n (get_or ts n 0 + share w p))

-- one belief more, of a grade that is not among the others
one_more_lem : (n s : ℕ) (f : ℕ → ℕ) (ts : List ℕ) → f n ≡ 0 → add_each f 0 (set ts n (get_or ts n 0 + s)) ≡ add_each (λ g. cond (eqb g n) s (f g)) 0 ts
one_more_lem n s f ts z =
    let us = set ts n (get_or ts n 0 + s) in
    let h : ℕ → ℕ = λ g. cond (eqb g n) s (f g) in
    ext_get_or 0 (add_each f 0 us) (add_each h 0 ts) (add-length f 0 us ∙ length-set ts n (get_or ts n 0 + s) ∙ sym (add-length h 0 ts))
    (λ i k.
    let l : i < length us = omega (arith, add-length f 0 us) in
    let m : i < length ts = omega (arith, length-set ts n (get_or ts n 0 + s)) in
    add_at f 0 us i l ∙ go i (0 + i) (let e : 0 + i ≡ i = omega arith in e) m (eqb i n) refl ∙ sym (add_at h 0 ts i m))
  where
    go : (i j : ℕ) → j ≡ i → i < length ts → (b : Bool) → eqb i n ≡ b → get_or (set ts n (get_or ts n 0 + s)) i 0 + f j ≡ get_or ts i 0 + cond (eqb j n) s (f j)
    go i j d m true e =
        let q : i ≡ n = eqb-true i n e in
        let t : get_or (set ts n (get_or ts n 0 + s)) i 0 ≡ get_or ts n 0 + s = ap (λ (x : ℕ). get_or (set ts n (get_or ts n 0 + s)) x 0) q ∙ get_or-set_same ts n (get_or ts n 0 + s) 0 (omega arith) in
        let r : get_or ts i 0 ≡ get_or ts n 0 = ap (λ (x : ℕ). get_or ts x 0) q in
        let y : f j ≡ 0 = ap f (d ∙ q) ∙ z in
        let c : cond (eqb j n) s (f j) ≡ s = ap (λ (b : Bool). cond b s (f j)) (eq-eqb j n (d ∙ q)) in
        omega (arith, t, r, y, c)
    go i j d m false e =
        let t : get_or (set ts n (get_or ts n 0 + s)) i 0 ≡ get_or ts i 0 = get_or-set_other ts n i (get_or ts n 0 + s) 0 (eqb-false i n e) in
        let c : cond (eqb j n) s (f j) ≡ f j = ap (λ (b : Bool). cond b s (f j)) (ne_eqb j n (λ x. eqb-false i n e (sym d ∙ x))) in
        omega (arith, t, c)

nothing-more : (g : ℕ) (ts : List ℕ) → ts ≡ add_each (λ x. 0) g ts
unfolding add_each
nothing-more g [] = refl
nothing-more g (t ∷ ts) = let e : t ≡ t + 0 = omega arith in cc (e, nothing-more (suc g) ts)

-- a belief's two floats
two_floats : (w n : ℕ) (ns : List ℕ) (m : Message) (fs : List Float) (ts : List ℕ) → length m ≡ 2 → adding w (n ∷ ns) (m ++ fs) ts ≡ adding w ns fs (set ts n (get_or ts n 0 + share w (entry 1 m)))
two_floats w n ns [] fs ts h = absurd (let z : ⊥ = omega arith in z)
two_floats w n ns (x ∷ []) fs ts h = absurd (let z : ⊥ = omega arith in z)
two_floats w n ns (x ∷ y ∷ []) fs ts h = refl
two_floats w n ns (x ∷ y ∷ z ∷ m) fs ts h = absurd (let z : ⊥ = omega arith in z)

pub beliefs-added : (w : ℕ) (bs : List Belief) (ts : List ℕ) → All TwoFloats bs → NoDup eqb (belief_numbers bs) → adding w (belief_numbers bs) (belief_floats bs) ts ≡ add_each (λ g. share_among w g bs) 0 ts
unfolding share_among belief_numbers belief_floats
beliefs-added w [] ts h d = nothing-more 0 ts
beliefs-added w (b ∷ bs) ts h d =
    let s = share w (entry 1 b.value) in
    two_floats w b.grade (belief_numbers bs) b.value (belief_floats bs) ts h.0
    ∙ beliefs-added w bs (set ts b.grade (get_or ts b.grade 0 + s)) h.1 d.1
    ∙ one_more_lem b.grade s (λ g. share_among w g bs) ts (none_among w b.grade bs d.0)

-- ---- what is asked, and what is answered

-- The bale is no heavier than any; each grade is one of the totals, each present belief lies in [0, 1], and the totals are far from 2 ^ 64.
pub record Addable (ts : List ℕ) (w : ℕ) (ns : List ℕ) (fs : List Float) : Type 0 where
  pub light : w ≤ 2000000
  pub few : length ns ≤ 1024
  pub two : length fs ≡ 2 * length ns
  pub inside : (i : ℕ) → i < length ns → get_or ns i 0 < length ts
  pub unit : (i : ℕ) → i < length ns → In zeroᶠ oneᶠ (get_or fs (2 * i + 1) nan)
  pub low : (g : ℕ) → get_or ts g 0 ≤ 2 ^ 63

-- belief by belief; and of a bale's beliefs, in which no grade stands twice, grade by grade
pub record Added (ts : List ℕ) (w : ℕ) (ns : List ℕ) (fs : List Float) (us : List ℕ) : Type 0 where
  pub each : us ≡ adding w ns fs ts
  pub grades : (bs : List Belief) → ns ≡ belief_numbers bs → fs ≡ belief_floats bs → All TwoFloats bs → NoDup eqb (belief_numbers bs) → us ≡ add_each (λ g. share_among w g bs) 0 ts

pub added : {ts : List ℕ} {w : ℕ} {ns : List ℕ} {fs : List Float} {us : List ℕ} → us ≡ adding w ns fs ts → Added ts w ns fs us
added {ts} {w} {ns} {fs} {us} e =
    record {
      each = e;
      grades = λ bs n f t d. e ∙ ap (λ (x : List ℕ). adding w x fs ts) n ∙ ap (λ (x : List Float). adding w (belief_numbers bs) x ts) f ∙ beliefs-added w bs ts t d;
    }

-- totals to which a bale can be added
pub record Low (ts : List ℕ) : Type 0 where
  pub long : length ts ≡ 1024
  pub low : (g : ℕ) → get_or ts g 0 ≤ 2 ^ 63

-- ---- while they are added: us are the totals with the first i beliefs

pub record Adding (ts : List ℕ) (w : ℕ) (ns : List ℕ) (fs : List Float) (us : List ℕ) (i : ℕ) : Type 0 where
  pub left : adding w (drop i ns) (drop (2 * i) fs) us ≡ adding w ns fs ts
  pub long : length us ≡ length ts
  pub low : (g : ℕ) → get_or us g 0 ≤ 2 ^ 63 + i * 2000000

pub adding-ends : {ts : List ℕ} {w : ℕ} {ns : List ℕ} {fs : List Float} {us : List ℕ} {i : ℕ} → Adding ts w ns fs us i → length ns ≤ i → us ≡ adding w ns fs ts
adding-ends {ts} {w} {ns} {fs} {us} {i} a h = ap (λ (x : List ℕ). adding w x (drop (2 * i) fs) us) (sym (drop_of_length-le ns h)) ∙ a.left

module _ {ts : List ℕ} {w : ℕ} {ns : List ℕ} {fs : List Float} (p : Addable ts w ns fs) {us : List ℕ} {i : ℕ} (a : Adding ts w ns fs us i) (h : i < length ns) where
  abbrev grade : ℕ
  grade = get_or ns i 0

  abbrev present : Float
  present = get_or fs (2 * i + 1) nan

  pub share-fits : share w present ≤ 2000000
  share-fits = omega (arith, share-le w present (in_finite (p.unit i h) tt) (p.unit i h).high, p.light)

  pub sum_fits : get_or us grade 0 + share w present ≤ 2 ^ 63 + (i + 1) * 2000000
  sum_fits = omega (arith, a.low grade, share-fits)

  floats_cut : drop (2 * i) fs ≡ get_or fs (2 * i) nan ∷ present ∷ drop (2 * (i + 1)) fs
  floats_cut =
      let e : suc (2 * i) ≡ 2 * i + 1 = omega arith in
      let f : suc (2 * i + 1) ≡ 2 * (i + 1) = omega arith in
      drop-cons fs (2 * i) nan (omega (arith, p.two))
      ∙ ap (λ (x : ℕ). get_or fs (2 * i) nan ∷ drop x fs) e
      ∙ ap (λ (l : List Float). get_or fs (2 * i) nan ∷ l) (drop-cons fs (2 * i + 1) nan (omega (arith, p.two)))
      ∙ ap (λ (x : ℕ). get_or fs (2 * i) nan ∷ present ∷ drop x fs) f

  numbers-cut : drop i ns ≡ grade ∷ drop (i + 1) ns
  numbers-cut = let e : suc i ≡ i + 1 = omega arith in drop-cons ns i 0 h ∙ ap (λ (x : ℕ). grade ∷ drop x ns) e

  with_share : Adding ts w ns fs (set us grade (get_or us grade 0 + share w present)) (i + 1)
  with_share =
      record {
        left = sym (ap (λ (x : List ℕ). adding w x (drop (2 * i) fs) us) numbers-cut ∙ ap (λ (x : List Float). adding w (grade ∷ drop (i + 1) ns) x us) floats_cut) ∙ a.left;
        long = length-set us grade (get_or us grade 0 + share w present) ∙ a.long;
        low = λ g. go g (eqb g grade) refl;
      }
    where
      go : (g : ℕ) (b : Bool) → eqb g grade ≡ b → get_or (set us grade (get_or us grade 0 + share w present)) g 0 ≤ 2 ^ 63 + (i + 1) * 2000000
      go g true e =
          let q : g ≡ grade = eqb-true g grade e in
          omega (arith, sum_fits, ap (λ (x : ℕ). get_or (set us grade (get_or us grade 0 + share w present)) x 0) q, get_or-set_same us grade (get_or us grade 0 + share w present) 0 (omega (arith, p.inside i h, a.long)))
      go g false e = omega (arith, get_or-set_other us grade g (get_or us grade 0 + share w present) 0 (eqb-false g grade e), a.low g)

  pub adding-next : (r : ℕ) → r ≡ share w present → Adding ts w ns fs (set us grade (get_or us grade 0 + r)) (i + 1)
  adding-next r e = subst (λ (x : ℕ). Adding ts w ns fs (set us grade (get_or us grade 0 + x)) (i + 1)) (sym e) with_share
