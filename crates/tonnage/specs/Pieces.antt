-- A shift's bytes, piece by piece: how what is held of them goes on.
use Rattle.std.specs.Prelude.{ℕ, ◌+◌, ◌-◌, ◌≤◌, ◌<◌, ◌≡◌, Bool, true, false, List, [], ◌∷◌, ◌++◌, length, take, drop, replicate}
use Rattle.std.proofs.Common.{arith, sym, ap, ◌∙◌, subst, true≢false, append_assoc, length-drop, take-add, take_all}
use borrow.Author.Rules.{part_to_end}
use Rattle.definition.specs.Shift.{bales}
use Rattle.theorems.specs.Facts.{ended_bales, open_bale, ended-more}
use Rattle.tonnage_laws.specs.Shifts.{ended_by, still_open}
use Rattle.bale_answer.specs.declared.input.Input.{Input}
use Rattle.bale_answer.specs.Open.{OpenIn, TookTo, none_open}
use Rattle.bale_answer.specs.Taken.{TakenIn}
use Rattle.tonnage.specs.declared.pieces.Weighing.{Weighing}
use Rattle.tonnage.specs.declared.pieces.Went.{Went}
use Rattle.tonnage.specs.declared.tally.Tally.{Tally}
use Rattle.tonnage.specs.Standings.{is_waiting, HoldsTally}
use Rattle.tonnage.specs.Tallies.{settled_more}
use Rattle.tonnage.specs.Weighed.{Weighs, WeighedTo}

-- where no line waits further bytes count for nothing
pub tally_settled :
    (csv bs xs : List ℕ) (t : Tally) (sums : List ℕ) → is_waiting t.standing ≡ false → HoldsTally csv (ended_bales bs) t sums → HoldsTally csv (ended_bales (bs ++ xs)) t sums
tally_settled csv bs xs t sums e h =
    subst (λ (es : List (List ℕ)). HoldsTally csv es t sums) (sym (ended-more bs xs))
    (record { stands = settled_more csv (ended_bales bs) (ended_bales (open_bale bs ++ xs)) t.standing t.lines t.bales sums e h.stands; long = h.long })

-- where it is known whether a bale has ended
pub took_as : (bs piece : List ℕ) (n : ℕ) (i : Input) (ms ps : List ℕ) (r q : Bool) → r ≡ q → TookTo r bs piece n i ms ps → TookTo q bs piece n i ms ps
took_as bs piece n i ms ps r q e t = subst (λ (x : Bool). TookTo x bs piece n i ms ps) e t

abbrev weighing_of : Tally → Input → Weighing
weighing_of t i = record { tally = t; input = i }

abbrev went_to : Weighing → ℕ → Went
went_to w n = record { weighing = w; used = n }

module _ (csv bs : List ℕ) (w : Weighing) (ms ps sums : List ℕ) (h : Weighs csv bs w ms ps sums) where
  pub settled_to : (piece : List ℕ) → is_waiting w.tally.standing ≡ false → WeighedTo csv bs piece (went_to w (length piece)) ms ps sums
  settled_to piece e =
      record {
        within = omega arith;
        some = λ k. k;
        weighs = record {
          tally = tally_settled csv bs (take (length piece) piece) w.tally sums e h.tally;
          held = λ f. absurd (true≢false (sym f ∙ e));
          markers_now = h.markers_now;
          pairs_now = h.pairs_now;
        };
      }

  -- a line waits, and of a piece so many bytes were taken in
  module _ (piece : List ℕ) (n : ℕ) (i : Input) (ns qs : List ℕ) where
    -- no bale has ended
    pub open_to : TookTo false (open_bale bs) piece n i ns qs → WeighedTo csv bs piece (went_to (weighing_of w.tally i) n) ns qs sums
    open_to took =
        let e : take n piece ≡ piece = take_all n piece (omega (arith, took.0)) in
        let o = still_open bs piece took.1.no_end in
        record {
          within = omega (arith, took.0);
          some = λ k. omega (arith, took.0);
          weighs = subst
              (λ (l : List ℕ). Weighs csv (bs ++ l) (weighing_of w.tally i) ns qs sums)
              (sym e)
              (record {
                tally = subst (λ (es : List (List ℕ)). HoldsTally csv es w.tally sums) (sym o.0) h.tally;
                held = λ f. subst (λ (l : List ℕ). OpenIn l i ns qs) (sym o.1) took.1;
                markers_now = took.1.taken.taken.markers_now;
                pairs_now = took.1.taken.taken.pairs_now;
              });
        }

    -- a bale has ended, and was weighed
    module _ (took : TookTo true (open_bale bs) piece n i ns qs) (t : Tally) (us : List ℕ) (j : Input) where
      pub ended_to : HoldsTally csv (ended_bales bs ++ (open_bale bs ++ take n piece) ∷ []) t us → OpenIn [] j ns qs → WeighedTo csv bs piece (went_to (weighing_of t j) n) ns qs us
      ended_to g o =
          let e = ended_by bs (take n piece) took.2 in
          record {
            within = took.1;
            some = λ k. took.0;
            weighs = record {
              tally = subst (λ (es : List (List ℕ)). HoldsTally csv es t us) (sym e.0) g;
              held = λ f. subst (λ (l : List ℕ). OpenIn l j ns qs) (sym e.1) o;
              markers_now = took.3.taken.markers_now;
              pairs_now = took.3.taken.pairs_now;
            };
          }

-- before the first byte
pub weighs_none :
    (csv : List ℕ) (t : Tally) (i : Input) (ms ps sums : List ℕ) → sums ≡ replicate 1024 0 → HoldsTally csv [] t (replicate 1024 0) → TakenIn [] i ms ps →
    Weighs csv [] (weighing_of t i) ms ps sums
unfolding bales
weighs_none csv t i ms ps sums z h k =
    record { tally = subst (HoldsTally csv [] t) (sym z) h; held = λ e. none_open i ms ps k; markers_now = k.taken.markers_now; pairs_now = k.taken.pairs_now }

-- ---- a piece of which k bytes were taken in

module _ (bs piece : List ℕ) (k : ℕ) where
  abbrev before : List ℕ
  before = bs ++ take k piece

  abbrev pub behind : List ℕ
  behind = take (length piece - k) (drop k piece)

  joined : (u : ℕ) → before ++ take u behind ≡ bs ++ take (k + u) piece
  joined u =
      append_assoc bs (take k piece) (take u behind)
      ∙ ap (λ (l : List ℕ). bs ++ l) (ap (λ (l : List ℕ). take k piece ++ take u l) (part_to_end piece k) ∙ sym (take-add k u piece))

  behind-long : length behind ≡ length piece - k
  behind-long = ap length (part_to_end piece k) ∙ length-drop k piece

  module _ (csv : List ℕ) (r : Went) (ms ps sums : List ℕ) (w : WeighedTo csv before behind r ms ps sums) (l : k < length piece) where
    pub piece-next : Weighs csv (bs ++ take (k + r.used) piece) r.weighing ms ps sums
    piece-next = subst (λ (x : List ℕ). Weighs csv x r.weighing ms ps sums) (joined r.used) w.weighs

    pub piece-within : k + r.used ≤ length piece
    piece-within = omega (arith, w.within, behind-long)
