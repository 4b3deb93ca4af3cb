-- A turn of the loop over the upper reads: what it asks, and what it leaves.
use Rattle.std.specs.Prelude.{ℕ, suc, ◌+◌, ◌*◌, ◌/◌, ◌≤◌, ◌<◌, ◌≡◌, refl, List, [], ◌∷◌, ◌++◌, length, get_or, set, replicate}
use Rattle.std.proofs.Common.{arith, sym, ap, subst, ◌∙◌, length-set, length-append}
use Rattle.std.proofs.Math.Option.{none, some}
use Rattle.std.proofs.lemmas.List.{length-replicate}
use Rattle.definition.specs.Refusals.{lowest_place, accepted}
use Rattle.definition.specs.Call.{overwrite}
use Rattle.definition.specs.Readers.{Read, reads_of, read_at, Match, first_free, match_with, matches_up_to, matches, match_numbers, lesser, match_verdict}
use Rattle.claims.specs.Matching.{InOrder}
use Rattle.graph_laws.specs.Overwriting.{over-length, over_again, over_beginning}
use Rattle.readers_laws.specs.Call.{length-numbers}
use Rattle.readers_laws.specs.Turns.{lowest_free, passes_by, takes_by}
use Rattle.readers_laws.specs.Answer.{few_upper, few_lower}
use Rattle.readers_laws.specs.Table.{lesser_cases, upper_fits, lower-fits, buffer-fits, upper_ordered, lower_ordered}
use Rattle.readers.specs.Slices.{read_in, length-reads, read_at_lem}
use Rattle.readers.specs.Scan.{Passed, open_tests, passed_later}
use Rattle.readers.specs.Marks.{Marked, marked-first, marked_more, passed-more, open_free, numbers_append, written-more}

-- the matches of the first n upper reads
abbrev pub made : List ℕ → List ℕ → ℕ → ℕ → List Match
made upper lower w n = matches_up_to w (reads_of upper) (reads_of lower) n

-- Upper read i is there, the lower reads before `first` are passed for it, marks, count and the answer's front are those of the matches so far, and the answer
-- has room.
pub record Turnable (upper lower : List ℕ) (w i first count : ℕ) (marks answer : List ℕ) : Type 0 where
  pub there : i < length upper / 2
  pub upper_few : length upper / 2 ≤ 1024
  pub lower_few : length lower / 2 ≤ 1024
  pub first-there : first ≤ length lower / 2
  pub ordered : InOrder (reads_of lower)
  pub passed : Passed w (reads_of lower) marks (get_or upper (2 * i) 0) first
  pub long : length marks ≡ 1024
  pub marked : Marked marks (made upper lower w i)
  pub counted : count ≡ length (made upper lower w i)
  pub written : answer ≡ overwrite (match_numbers (made upper lower w i)) answer
  pub room : 2 * lesser (length upper / 2) (length lower / 2) ≤ length answer

-- Marks, count and answer are those of one upper read more, and what was passed is so still.
pub record Turned (upper lower : List ℕ) (w i first count : ℕ) (marks answer answer' : List ℕ) : Type 0 where
  pub passed : Passed w (reads_of lower) marks (get_or upper (2 * i) 0) first
  pub long : length marks ≡ 1024
  pub marked : Marked marks (made upper lower w (suc i))
  pub counted : count ≡ length (made upper lower w (suc i))
  pub written : answer' ≡ overwrite (match_numbers (made upper lower w (suc i))) answer

module _ (upper lower : List ℕ) (w i first count : ℕ) (marks answer : List ℕ) (t : Turnable upper lower w i first count marks answer) where
  -- what the search finds is what the definition finds
  pub searched : lowest_place (open_tests w (reads_of lower) marks (read_in upper i)) ≡ first_free w (reads_of lower) (made upper lower w i) (read_at (reads_of upper) i)
  searched =
      ap (λ (u : Read). lowest_place (open_tests w (reads_of lower) marks u)) (sym (read_at_lem upper i t.there))
      ∙ open_free w (reads_of lower) marks (made upper lower w i) (read_at (reads_of upper) i) (omega (arith, length-reads lower, t.lower_few)) t.marked

  pub turned_none : none ≡ lowest_place (open_tests w (reads_of lower) marks (read_in upper i)) → Turned upper lower w i first count marks answer answer
  turned_none e =
      let q = passes_by w (reads_of upper) (reads_of lower) i (sym (e ∙ searched)) in
      record {
        passed = t.passed;
        long = t.long;
        marked = subst (Marked marks) (sym q) t.marked;
        counted = t.counted ∙ ap length (sym q);
        written = t.written ∙ ap (λ (ms : List Match). overwrite (match_numbers ms) answer) (sym q);
      }

  module _ (j : ℕ) (e : some j ≡ lowest_place (open_tests w (reads_of lower) marks (read_in upper i))) where
    more : made upper lower w (suc i) ≡ made upper lower w i ++ (record { upper = i; lower = j } ∷ [])
    more = takes_by w (reads_of upper) (reads_of lower) i j (sym (e ∙ searched))

    pub found_there : j < length lower / 2
    found_there =
        subst (λ n. j < n) (length-reads lower)
        (lowest_free w (reads_of lower) (made upper lower w i) (read_at (reads_of upper) i) j (sym (e ∙ searched))).there

    one_more_lem : length (made upper lower w (suc i)) ≡ count + 1
    one_more_lem = ap length more ∙ length-append (made upper lower w i) (record { upper = i; lower = j } ∷ []) ∙ ap (λ n. n + 1) (sym t.counted)

    pub has_room : 2 * count + 2 ≤ length answer
    has_room =
        let a : count + 1 ≤ length upper / 2 = omega (arith, one_more_lem, few_upper w (reads_of upper) (reads_of lower) (suc i), t.there) in
        let b : count + 1 ≤ length lower / 2 = omega (arith, one_more_lem, few_lower w (reads_of upper) (reads_of lower) (suc i), length-reads lower) in
        omega (arith, lesser_cases (λ n. count + 1 ≤ n) (length upper / 2) (length lower / 2) a b, t.room)

    pub turned_some : Turned upper lower w i first (count + 1) (set marks j 1) answer (set (set answer (2 * count) i) (2 * count + 1) j)
    turned_some =
        let k : j < length marks = omega (arith, t.long, found_there, t.lower_few) in
        record {
          passed = passed-more marks (made upper lower w i) i j k w (reads_of lower) (get_or upper (2 * i) 0) first t.passed;
          long = length-set marks j 1 ∙ t.long;
          marked = subst (Marked (set marks j 1)) (sym more) (marked_more marks (made upper lower w i) i j k t.marked);
          counted = sym one_more_lem;
          written =
              ap (λ n. set (set answer (2 * n) i) (2 * n + 1) j) t.counted
              ∙ ap (λ (l : List ℕ). set (set l (2 * length (made upper lower w i)) i) (2 * length (made upper lower w i) + 1) j) t.written
              ∙ written-more (made upper lower w i) answer i j (omega (arith, has_room, t.counted))
              ∙ ap (λ (ms : List Match). overwrite (match_numbers ms) answer) (sym more);
        }

-- ---- the loop over the upper reads

-- Before upper read i: marks, count and answer are those of the matches so far, over what b held, and the lower reads before `first` are passed for it.
pub record Running (upper lower : List ℕ) (w : ℕ) (b answer marks : List ℕ) (first count i : ℕ) : Type 0 where
  pub first-there : first ≤ length lower / 2
  pub passed : i < length upper / 2 → Passed w (reads_of lower) marks (get_or upper (2 * i) 0) first
  pub long : length marks ≡ 1024
  pub marked : Marked marks (made upper lower w i)
  pub counted : count ≡ length (made upper lower w i)
  pub written : answer ≡ overwrite (match_numbers (made upper lower w i)) b

pub running_first : (upper lower : List ℕ) (w : ℕ) (b : List ℕ) → Running upper lower w b b (replicate 1024 0) 0 0 0
unfolding matches_up_to match_numbers
running_first upper lower w b =
    record {
      first-there = omega arith;
      passed = λ l j q. absurd (let z : ⊥ = omega arith in z);
      long = length-replicate {A = ℕ} 1024 0;
      marked = marked-first;
      counted = refl;
      written = refl;
    }

grown : (upper lower : List ℕ) (w : ℕ) (b : List ℕ) (i : ℕ) →
    overwrite (match_numbers (made upper lower w (suc i))) (overwrite (match_numbers (made upper lower w i)) b) ≡ overwrite (match_numbers (made upper lower w (suc i))) b
unfolding matches_up_to
grown upper lower w b i =
    let ms = made upper lower w i in
    let next = match_with i (first_free w (reads_of lower) ms (read_at (reads_of upper) i)) in
    rw (numbers_append ms next) (over_beginning (match_numbers ms) (match_numbers next) b)

module _ (upper lower : List ℕ) (w : ℕ) (b : List ℕ) (h : match_verdict (reads_of upper) (reads_of lower) (length b) ≡ accepted) where
  pub upper_count : length upper / 2 ≤ 1024
  upper_count = subst (λ n. n ≤ 1024) (length-reads upper) (upper_fits (reads_of upper) (reads_of lower) (length b) h)

  pub lower_count : length lower / 2 ≤ 1024
  lower_count = subst (λ n. n ≤ 1024) (length-reads lower) (lower-fits (reads_of upper) (reads_of lower) (length b) h)

  room : 2 * lesser (length upper / 2) (length lower / 2) ≤ length b
  room =
      subst (λ n. 2 * lesser n (length lower / 2) ≤ length b) (length-reads upper)
      (subst (λ n. 2 * lesser (length (reads_of upper)) n ≤ length b) (length-reads lower) (buffer-fits (reads_of upper) (reads_of lower) (length b) h))

  few : (n : ℕ) → n ≤ length upper / 2 → length (made upper lower w n) ≤ lesser (length upper / 2) (length lower / 2)
  few n l =
      lesser_cases (λ k. length (made upper lower w n) ≤ k) (length upper / 2) (length lower / 2)
      (omega (arith, few_upper w (reads_of upper) (reads_of lower) n)) (omega (arith, few_lower w (reads_of upper) (reads_of lower) n, length-reads lower))

  pub running_length : (answer marks : List ℕ) (first count n : ℕ) → n ≤ length upper / 2 → Running upper lower w b answer marks first count n → length answer ≡ length b
  running_length answer marks first count n l r =
      ap length r.written ∙ over-length (match_numbers (made upper lower w n)) b (omega (arith, length-numbers (made upper lower w n), few n l, room))

  module _ (answer : List ℕ) (i first count : ℕ) (l : i < length upper / 2) where
    -- the turn's needs, after a skip of what is passed
    pub turnable : (marks : List ℕ) (first₀ : ℕ) → Running upper lower w b answer marks first₀ count i → first ≤ length lower / 2 →
        Passed w (reads_of lower) marks (get_or upper (2 * i) 0) first → Turnable upper lower w i first count marks answer
    turnable marks first₀ r f p =
        record {
          there = l;
          upper_few = upper_count;
          lower_few = lower_count;
          first-there = f;
          ordered = lower_ordered (reads_of upper) (reads_of lower) (length b) h;
          passed = p;
          long = r.long;
          marked = r.marked;
          counted = r.counted;
          written = r.written ∙ sym (over_again (match_numbers (made upper lower w i)) b) ∙ ap (overwrite (match_numbers (made upper lower w i))) (sym r.written);
          room = omega (arith, room, running_length answer marks first₀ count i (omega arith) r);
        }

    later : suc i < length upper / 2 → get_or upper (2 * i) 0 ≤ get_or upper (2 * suc i) 0
    later k =
        let o = upper_ordered (reads_of upper) (reads_of lower) (length b) h i (omega (arith, length-reads upper)) in
        omega (arith, o, ap (λ (r : Read). r.tick) (read_at_lem upper i l), ap (λ (r : Read). r.tick) (read_at_lem upper (suc i) k))

    pub running_next : (marks answer' : List ℕ) → answer ≡ overwrite (match_numbers (made upper lower w i)) b → first ≤ length lower / 2 →
        Turned upper lower w i first count marks answer answer' → Running upper lower w b answer' marks first count (suc i)
    running_next marks answer' e f t =
        record {
          first-there = f;
          passed = λ k. passed_later w (reads_of lower) marks (get_or upper (2 * i) 0) (get_or upper (2 * suc i) 0) first (later k) t.passed;
          long = t.long;
          marked = t.marked;
          counted = t.counted;
          written = t.written ∙ ap (overwrite (match_numbers (made upper lower w (suc i)))) e ∙ grown upper lower w b i;
        }

pub running_end : (upper lower : List ℕ) (w : ℕ) (b answer marks : List ℕ) (first count n : ℕ) → n ≡ length upper / 2 → Running upper lower w b answer marks first count n →
    (count ≡ length (matches w (reads_of upper) (reads_of lower))) × (answer ≡ overwrite (match_numbers (matches w (reads_of upper) (reads_of lower))) b)
unfolding matches
running_end upper lower w b answer marks first count n e r =
    let q : length (reads_of upper) ≡ n = length-reads upper ∙ sym e in
    rw q (r.counted, r.written)
