-- The opening of a part in its two ranges: the pending residuals and the scratch cleared, the rows of messages opened, the flags cleared.
use Rattle.std.specs.Prelude.{ℕ, zero, suc, ◌+◌, ◌*◌, ◌≤◌, ◌<◌, ◌≡◌, Float, get_or}
use Rattle.std.proofs.Common.{zero-add, suc-add, arith, sym, ◌∙◌, subst, length-append, length-drop, take-add, take_at, length-take-le}
use Rattle.std.proofs.Math.Path.{ap}
use mathlib.Core.List.{List, ◌∷◌, ◌++◌, append_assoc}
use Rattle.std.proofs.Math.ListN.{length, take, drop, replicate}
use Rattle.std.proofs.lemmas.List.{length-replicate}
use Rattle.definition.specs.Floats.{zeroᶠ}
use Rattle.definition.specs.Settings as definition
use Rattle.definition.specs.Directions.{MessageGraph}
use Rattle.definition.specs.Sweeps.{opening}
use Rattle.list_laws.specs.Part.{region, length-region}
use Rattle.list_laws.specs.Put.{put, put-part}
use Rattle.messages.specs.Layout.{width}
use Rattle.messages.specs.DirectionsRead.{kinds_row, labels_row, firsts_row, starts_row, outs_row, offsets_row}
use Rattle.messages.specs.State.{scratch_floats, part_floats, FloatRows, store_of}
use Rattle.opening.specs.OpenRows.{FactorSettings}
use Rattle.opening.specs.Open.{OpenFloats, Opened, opening_store}
use Rattle.zero_lookahead.specs.declared.settings.Settings.{Settings}
use Rattle.zero_lookahead.specs.Part.{Given, rows_end, PartWords, PartRoom, StandsFor}
use Rattle.zero_lookahead.specs.PartKept.{flags_part, flags_are}
use Rattle.zero_lookahead.specs.PartOffsets.{width_in, width_is}

-- ---- the pending residuals cleared, and so many floats behind them

pub record PendingFits (words : List ℕ) (out more long : ℕ) : Type 0 where
  pub counts : 1 < length words
  pub width-there : out + 6 * get_or words 1 0 < length words
  pub room : 4 * width_in words out + (2 * get_or words 1 0 + more) ≤ long

abbrev pub pending_cleared : List ℕ → ℕ → ℕ → List Float → List Float
pending_cleared words out more w = put w (4 * width_in words out) (replicate (2 * get_or words 1 0 + more) zeroᶠ)

pub pending_fits : {s : definition.Settings} {t : MessageGraph} {out : ℕ} {evidence : List Float} {words : List ℕ} → PartWords s t out evidence words → (more long : ℕ) → 4 * width t.directions + length t.directions + more ≤ long → PendingFits words out more long
pending_fits P more long h =
    record { counts = omega (arith, P.behind, P.room); width-there = omega (arith, P.room); room = omega (arith, width_is P, P.edges) }

-- as the code finds their place
pub pending_cleared_lem : (words : List ℕ) (out more : ℕ) (w w' : List Float) (edges l : ℕ) → edges ≡ get_or words 1 0 → l ≡ get_or words (out + 6 * edges) 0 → w' ≡ put w (4 * l) (replicate (2 * edges + more) zeroᶠ) → w' ≡ pending_cleared words out more w
pending_cleared_lem words out more w w' edges l e f g =
    g
    ∙ ap (λ (i : ℕ). put w (4 * i) (replicate (2 * edges + more) zeroᶠ)) (f ∙ ap (λ (n : ℕ). get_or words (out + 6 * n) 0) e)
    ∙ ap (λ (n : ℕ). put w (4 * width_in words out) (replicate (2 * n + more) zeroᶠ)) e

-- ---- the floats, cut into rows

replicate-add : {A : Type 0} (m n : ℕ) (x : A) → replicate (m + n) x ≡ replicate m x ++ replicate n x
replicate-add zero n x = ap (λ (k : ℕ). replicate k x) (zero-add n)
replicate-add (suc m) n x = ap (λ (k : ℕ). replicate k x) (suc-add m n) ∙ ap (λ (l : List _). x ∷ l) (replicate-add m n x)

module _ (w : List Float) (l d k : ℕ) (h : 4 * l + d + k ≤ length w) where
  abbrev w₁ : List Float
  w₁ = drop l w

  abbrev w₂ : List Float
  w₂ = drop l w₁

  abbrev w₃ : List Float
  w₃ = drop l w₂

  abbrev behind : List Float
  behind = replicate k zeroᶠ ++ drop (4 * l + length (replicate (d + k) zeroᶠ)) w

  four_rows : take (4 * l) w ≡ take l w ++ (take l w₁ ++ (take l w₂ ++ take l w₃))
  four_rows =
      ap (λ (n : ℕ). take n w) (let z : 4 * l ≡ l + (l + (l + l)) = omega arith in z)
      ∙ take-add l (l + (l + l)) w
      ∙ ap (λ (r : List Float). take l w ++ r) (take-add l (l + l) w₁ ∙ ap (λ (r : List Float). take l w₁ ++ r) (take-add l l w₂))

  cleared-rows : put w (4 * l) (replicate (d + k) zeroᶠ) ≡ part_floats (take l w) (take l w₁) (take l w₂) (take l w₃) (replicate d zeroᶠ) behind
  unfolding put
  cleared-rows =
      let b = drop (4 * l + length (replicate (d + k) zeroᶠ)) w in
      let z = replicate d zeroᶠ ++ behind in
      ap (λ (r : List Float). take (4 * l) w ++ r) (ap (λ (r : List Float). r ++ b) (replicate-add d k zeroᶠ) ∙ append_assoc (replicate d zeroᶠ) (replicate k zeroᶠ) b)
      ∙ ap (λ (r : List Float). r ++ z) four_rows
      ∙ append_assoc (take l w) (take l w₁ ++ (take l w₂ ++ take l w₃)) z
      ∙ ap (λ (r : List Float). take l w ++ r) (append_assoc (take l w₁) (take l w₂ ++ take l w₃) z ∙ ap (λ (r : List Float). take l w₁ ++ r) (append_assoc (take l w₂) (take l w₃) z))

  behind-zeros : take k behind ≡ replicate k zeroᶠ
  behind-zeros = take_at (replicate k zeroᶠ) (drop (4 * l + length (replicate (d + k) zeroᶠ)) w) k (length-replicate k zeroᶠ)

  behind_room : k ≤ length behind
  behind_room = omega (arith, length-append (replicate k zeroᶠ) (drop (4 * l + length (replicate (d + k) zeroᶠ)) w), length-replicate k zeroᶠ)

  long₁ : length w₁ + l ≡ length w
  long₁ = simp length-drop (omega arith)

  long₂ : length w₂ + 2 * l ≡ length w
  long₂ = simp length-drop (omega arith)

  long₃ : length w₃ + 3 * l ≡ length w
  long₃ = simp length-drop (omega arith)

-- what stands in them after the clearing
pub record ClearRows (t : MessageGraph) (w : List Float) : Type 0 where
  pub r_in : List Float
  pub r_new : List Float
  pub r_log : List Float
  pub r_build : List Float
  pub pending : List Float
  pub rest : List Float
  pub floats : FloatRows t r_in r_new r_log r_build pending rest
  pub is : w ≡ part_floats r_in r_new r_log r_build pending rest

clear-rows : (t : MessageGraph) (w : List Float) (l d : ℕ) → l ≡ width t.directions → d ≡ length t.directions → 4 * l + d + scratch_floats ≤ length w → ClearRows t (put w (4 * l) (replicate (d + scratch_floats) zeroᶠ))
clear-rows t w l d e f h =
    let k = scratch_floats in
    record {
      r_in = take l w;
      r_new = take l (w₁ w l d k h);
      r_log = take l (w₂ w l d k h);
      r_build = take l (w₃ w l d k h);
      pending = replicate d zeroᶠ;
      rest = behind w l d k h;
      floats =
          record {
            in_long = length-take-le l w (omega arith) ∙ e;
            new-long = length-take-le l (w₁ w l d k h) (omega (arith, long₁ w l d k h)) ∙ e;
            log_long = length-take-le l (w₂ w l d k h) (omega (arith, long₂ w l d k h)) ∙ e;
            build-long = length-take-le l (w₃ w l d k h) (omega (arith, long₃ w l d k h)) ∙ e;
            pending_long = length-replicate d zeroᶠ ∙ f;
            room = behind_room w l d k h;
            zeros = behind-zeros w l d k h;
          };
      is = cleared-rows w l d k h;
    }

-- and after the opening
pub record OpenedPart (s : definition.Settings) (t : MessageGraph) (w : List Float) : Type 0 where
  pub before : List Float
  pub clear : ClearRows t before
  pub opened : Opened s t clear.r_build clear.pending clear.rest w

-- ---- as the code has it

pub factor-settings : {s : definition.Settings} {g : Settings} → Given s g → FactorSettings s g.alpha g.beta g.regularised
factor-settings e =
    record {
      alpha_is = ap (λ (s : definition.Settings). s.alpha) e;
      beta_is = ap (λ (s : definition.Settings). s.beta) e;
      regularised_is = ap (λ (s : definition.Settings). s.regularised) e;
    }

module _ {s : definition.Settings} {t : MessageGraph} {out : ℕ} {evidence : List Float} {words : List ℕ} {w : List Float} (R : PartRoom s t out evidence words w) where
  pub cleared : (w' : List Float) → w' ≡ pending_cleared words out scratch_floats w → ClearRows t w'
  cleared w' e =
      let P = R.part in
      subst (ClearRows t) (sym e) (clear-rows t w (width_in words out) (2 * get_or words 1 0) (width_is P) P.edges (omega (arith, R.floats, width_is P, P.edges)))

  pub open_rows : {kinds firsts starts outs offsets labels : List ℕ} → kinds ≡ kinds_row words 0 → firsts ≡ firsts_row words 0 → starts ≡ starts_row words 0 out → outs ≡ outs_row words 0 out → offsets ≡ offsets_row words 0 out → labels ≡ labels_row words 0 →
      {w' : List Float} (C : ClearRows t w') → OpenFloats s t kinds firsts starts outs offsets labels evidence w' C.r_in C.r_new C.r_log C.r_build C.pending C.rest
  open_rows k f a o p l C = record { part = rw (k, f, a, o, p, l) R.part.rows; floats = C.floats; is = C.is }

  -- the flags cleared too
  pub opening_stands : (w' : List Float) (words' : List ℕ) → OpenedPart s t w' → words' ≡ put words (rows_end words out) (replicate (get_or words 0 0) 0) → StandsFor s t out evidence (opening s t) words' w'
  opening_stands w' words' O e =
      let fs : List ℕ = replicate (get_or words 0 0) 0 in
      let n : length fs ≡ get_or words 0 0 = length-replicate (get_or words 0 0) 0 in
      let C = O.clear in
      let o = O.opened in
      subst (λ (v : List ℕ). StandsFor s t out evidence (opening s t) v w') (sym e)
      (record {
        part = flags_part s t out evidence words R.part fs n;
        r_in = o.row;
        r_new = o.row;
        r_log = o.row;
        r_build = C.r_build;
        pending = C.pending;
        rest = C.rest;
        floats =
            record {
              in_long = o.long;
              new-long = o.long;
              log_long = o.long;
              build-long = C.floats.build-long;
              pending_long = C.floats.pending_long;
              room = C.floats.room;
              zeros = C.floats.zeros;
            };
        is = o.is;
        store =
            sym (opening_store s t o.row C.r_build o.stands)
            ∙ ap (store_of t o.row o.row o.row C.r_build) (ap (λ (k : ℕ). replicate {A = ℕ} k 0) (sym R.part.nodes) ∙ sym (flags_are s t out evidence words R.part fs n));
      })

-- ---- the flags

pub record FlagsFit (words : List ℕ) (out : ℕ) : Type 0 where
  pub counts : 1 < length words
  pub room : rows_end words out + get_or words 0 0 ≤ length words

-- a lent part of words comes back as zeros
pub words-cleared : (words part : List ℕ) (at n m : ℕ) → m ≡ n → at + n ≤ length words → part ≡ replicate (length (region words at m)) 0 → take at words ++ (part ++ drop m (drop at words)) ≡ put words at (replicate n 0)
words-cleared words part at n m e h f =
    let k : length (region words at m) ≡ m = length-region words at m (omega arith) in
    let g : part ≡ replicate n 0 = f ∙ ap (λ (i : ℕ). replicate {A = ℕ} i 0) (k ∙ e) in
    put-part words part at m (ap length g ∙ length-replicate n 0 ∙ sym e) ∙ ap (put words at) g
