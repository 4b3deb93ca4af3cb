-- What is held of the shift after a read more, and what is to be printed.
use Rattle.std.specs.Prelude.{ℕ, ◌+◌, ◌≤◌, ◌<◌, ◌≡◌, refl, Bool, Option, Result, true, false, ◌&&◌, List, [], ◌++◌, length, take, drop}
use Rattle.std.proofs.Common.{arith, sym, ap, subst, ◌∙◌, true≢false, append-nil}
use Rattle.definition.specs.Call.{overwrite}
use Rattle.definition.specs.Tonnage.{tonnage, weighing_lines}
use Rattle.list_laws.specs.Put.{put}
use Rattle.theorems.specs.Facts.{ended_bales}
use Rattle.listing.specs.Writing.{Written, written_is}
use Rattle.listing.specs.Front.{front_fits}
use Rattle.streams.specs.Calls.{AnsweredWithin, counted, ReadMoves}
use Rattle.streams.specs.Reads.{read_call}
use Rattle.streams.specs.Input.{Came, never, is_reading, phase_after, after_read, to_read}
use Rattle.streams.specs.Input.{bytes_after, length-after, phase_is, few_while_reading, all_came, came-more, less_to-read}
use Rattle.checks.specs.declared.refusal.Refusal.{Refusal}
use Rattle.tonnage.specs.Standings.{HoldsTally, weighing_with}
use Rattle.tonnage.specs.Weighed.{Weighs}
use Rattle.tonnage.specs.Pieces.{tally_settled}
use Rattle.depot.specs.declared.depot.Depot.{Depot}
use Rattle.depot.specs.Depots.{HoldsDepot, SomeGoing, Going, ReadBy, waits, is_going, is_settled, SomeDepot, Follows, text_of}

-- ---- a read more, of which n bytes were weighed

module _ (csv : List ℕ) (x : Came) (got : Option ℕ) (buffer : List ℕ) (n : ℕ) (is : n ≡ counted got (length buffer)) (within : n ≤ length buffer) where
  abbrev next : Came
  next = after_read never (read_call got buffer) x.bytes

  pub held-read :
      (d u : Depot) (ms ps sums ns qs us : List ℕ) → HoldsDepot csv x d ms ps sums → Weighs csv (x.bytes ++ take n buffer) u.weighing ns qs us →
      u.bytes ≡ d.bytes + n → u.phase ≡ phase_after got n u.bytes false → HoldsDepot csv next u ns qs us
  held-read d u ms ps sums ns qs us h w b p =
      let c : u.bytes ≡ length next.bytes = b ∙ ap (λ (m : ℕ). m + n) h.counted ∙ sym (length-after never got buffer x.bytes n is within) in
      record {
        phase = p ∙ phase_is never got buffer x.bytes n is within u.bytes false c refl;
        counted = c;
        weighs = subst (λ (l : List ℕ). Weighs csv l u.weighing ns qs us) (bytes_after never got buffer x.bytes n is) w;
      }

-- ---- the loop

abbrev pub to_read_of : Depot → ℕ
to_read_of d = to_read d.phase d.bytes

-- it goes on only where there is more to read
more-to-read : (a b : Bool) → (a && b) ≡ true → b ≡ true
more-to-read true b h = h
more-to-read false b h = absurd (true≢false (sym h))

-- the reader had `unread` before it and has `left` now
module _ (unread left : Option (List ℕ)) (csv : List ℕ) (d : Depot) (ms ps sums : List ℕ) (g : Going unread left csv d ms ps sums) (more : is_going d ≡ true) where
  reading : is_reading g.came.phase ≡ true
  reading = ap is_reading (sym g.holds.phase) ∙ more-to-read (waits d) (is_reading d.phase) more

  pub going-some : SomeGoing csv d ms ps sums
  going-some = record { came = g.came; holds = g.holds; few = few_while_reading never unread left g.came g.by reading }

  -- a read more, which answered `got`
  module _
      (got : Option ℕ) (buffer : List ℕ) (u : Depot) (ns qs us : List ℕ)
      (h : HoldsDepot csv (after_read never (read_call got buffer) g.came.bytes) u ns qs us) where
    pub going_more :
        (rest : Option (List ℕ)) → length buffer ≡ 65536 → AnsweredWithin 65536 got → ReadMoves left rest got buffer → Going unread rest csv u ns qs us
    going_more rest l m r =
        record {
          came = after_read never (read_call got buffer) g.came.bytes;
          by = came-more never unread left g.came g.by reading got buffer rest l m r;
          holds = h;
        }

    pub going_less : to_read_of u < to_read_of d
    going_less = rw (h.phase, h.counted, g.holds.phase, g.holds.counted) (less_to-read never unread left g.came g.by reading got buffer)

-- behind the loop
pub read_all :
    (unread left : Option (List ℕ)) (csv : List ℕ) (d : Depot) (ms ps sums : List ℕ) → Going unread left csv d ms ps sums → is_going d ≡ false →
    ReadBy unread left csv d ms ps sums
read_all unread left csv d ms ps sums g e =
    record { going = g; ended = e; whole = λ w. all_came never unread left g.came g.by (sym g.holds.phase ∙ w) refl }

-- ---- what is printed

-- what was written at the front of a slice
front-written : (s l m : List ℕ) (k : ℕ) → Written l 0 s m k → (m ≡ overwrite s l) × (k ≡ length s)
unfolding put
front-written s l m k w =
    let z : 0 + length s ≡ length s = omega arith in
    (w.bytes ∙ ap (λ (n : ℕ). s ++ drop n l) z, omega (arith, w.place))

-- what is printed was put at the front of l, which is m then, and has k bytes
abbrev pub Put : Depot → List ℕ → List ℕ → List ℕ → ℕ → Type 0
Put d sums l m k =
    (csv : List ℕ) (x : Came) (ms ps xs : List ℕ) → HoldsDepot csv x d ms ps sums → Follows d xs →
    (m ≡ overwrite (text_of csv x d xs) l) × (k ≡ length (text_of csv x d xs))

module _ (d : Depot) (sums : List ℕ) (o : Result ℕ Refusal) (settled : is_settled d ≡ true) where
  -- by what the tally's outcome is, whatever shift it holds
  module _ (is : (csv shift ts : List ℕ) → HoldsTally csv (ended_bales shift) d.weighing.tally ts → weighing_with o ts ≡ tonnage csv shift) where
    outcome_text :
        (csv : List ℕ) (x : Came) (ms ps xs : List ℕ) → HoldsDepot csv x d ms ps sums → Follows d xs →
        weighing_lines (weighing_with o sums) ≡ text_of csv x d xs
    outcome_text csv x ms ps xs h ended = rw settled (ap weighing_lines (is csv (x.bytes ++ xs) sums (go (waits d) refl)))
      where
        go : (b : Bool) → waits d ≡ b → HoldsTally csv (ended_bales (x.bytes ++ xs)) d.weighing.tally sums
        go true e =
            let z : x.bytes ≡ x.bytes ++ xs = sym (ap (λ (l : List ℕ). x.bytes ++ l) (ended e) ∙ append-nil x.bytes) in
            subst (λ (l : List ℕ). HoldsTally csv (ended_bales l) d.weighing.tally sums) z h.weighs.tally
        go false e = tally_settled csv x.bytes xs d.weighing.tally sums e h.weighs.tally

    -- the outcome is known to be p, whose lines were written
    pub outcome_put : (p : Result ℕ Refusal) → o ≡ p → (l m : List ℕ) (k : ℕ) → Written l 0 (weighing_lines (weighing_with p sums)) m k → Put d sums l m k
    outcome_put p e l m k w csv x ms ps xs h ended =
        let t = ap (λ (q : Result ℕ Refusal). weighing_lines (weighing_with q sums)) (sym e) ∙ outcome_text csv x ms ps xs h ended in
        front-written (text_of csv x d xs) l m k (written_is t w)

-- so many bytes fit, whatever was held
pub put-fits : (d : Depot) (sums l m : List ℕ) (k : ℕ) → SomeDepot d sums → Put d sums l m k → k ≤ length m
put-fits d sums l m k s put = front_fits (text_of s.csv s.came d []) l m k (put s.csv s.came s.markers s.pairs [] s.holds (λ e. refl))
