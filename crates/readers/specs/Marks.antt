-- The marks of the lower reads that are used, and the matches as they are written.
use Rattle.std.specs.Prelude.{ℕ, ◌+◌, ◌*◌, ◌≤◌, ◌<◌, ◌≡◌, refl, Bool, true, false, cond, not, ◌&&◌, ◌||◌, List, [], ◌∷◌, ◌++◌, eqb, ltb, length, get_or, set, replicate}
use Rattle.std.proofs.Common.{arith, sym, ap, ◌∙◌, eqb-true, get_or-set_same, get_or-set_other}
use Rattle.std.proofs.Math.Bool.{or-true, or-false}
use Rattle.std.proofs.lemmas.List.{map-append}
use Rattle.std.proofs.lemmas.Bool.{eqb-false}
use Rattle.definition.specs.Lists.{range, mem}
use Rattle.definition.specs.Call.{overwrite}
use Rattle.definition.specs.Refusals.{lowest_place}
use Rattle.definition.specs.Readers.{Read, read_at, Match, lowers_of, may_match, is_free, first_free, match_numbers}
use Rattle.graph_laws.specs.Lists.{concat-map_append, All-mono, map_cong}
use Rattle.graph_laws.specs.Ranks.{upto-below}
use Rattle.graph_laws.specs.Reach.{mem_append}
use Rattle.graph_laws.specs.Overwriting.{over-two}
use Rattle.readers_laws.specs.Call.{length-numbers}
use Rattle.checks.specs.Slices.{zeros}
use Rattle.readers.specs.Scan.{is_passed, Passed, is_open, open_tests}

-- a mark is 1 where the lower read is in one of the matches, else 0
abbrev mark : Bool → ℕ
mark used = cond used 1 0

abbrev pub Marked : List ℕ → List Match → Type 0
Marked marks ms = (j : ℕ) → j < 1024 → get_or marks j 0 ≡ mark (mem eqb j (lowers_of ms))

pub marked-first : Marked (replicate 1024 0) []
marked-first j l = zeros 1024 j

module _ (marks : List ℕ) (ms : List Match) (n j : ℕ) (there : j < length marks) where
  pub marked_more : Marked marks ms → Marked (set marks j 1) (ms ++ (record { upper = n; lower = j } ∷ []))
  marked_more h k l =
      go (eqb k j) refl
      ∙ sym (ap mark (ap (mem eqb k) (map-append (λ (m : Match). m.lower) ms (record { upper = n; lower = j } ∷ [])) ∙ mem_append eqb k (lowers_of ms) (j ∷ [])))
    where
      go : (b : Bool) → eqb k j ≡ b → get_or (set marks j 1) k 0 ≡ mark (mem eqb k (lowers_of ms) || (eqb k j || false))
      go true e =
          ap (λ (i : ℕ). get_or (set marks j 1) i 0) (eqb-true k j e)
          ∙ get_or-set_same marks j 1 0 there
          ∙ sym (rw e (ap mark (or-true (mem eqb k (lowers_of ms)))))
      go false e = get_or-set_other marks j k 1 0 (eqb-false k j e) ∙ h k l ∙ sym (rw e (ap mark (or-false (mem eqb k (lowers_of ms)))))

  pub passed-more : (w : ℕ) (ls : List Read) (t k : ℕ) → Passed w ls marks t k → Passed w ls (set marks j 1) t k
  passed-more w ls t k p i l = go (eqb i j) refl
    where
      go : (b : Bool) → eqb i j ≡ b → is_passed w ls (set marks j 1) t i ≡ true
      go true e =
          ap (λ (x : ℕ). not (eqb x 0) || ltb ((read_at ls i).tick + w) t) (ap (λ (q : ℕ). get_or (set marks j 1) q 0) (eqb-true i j e) ∙ get_or-set_same marks j 1 0 there)
      go false e = ap (λ (x : ℕ). not (eqb x 0) || ltb ((read_at ls i).tick + w) t) (get_or-set_other marks j i 1 0 (eqb-false i j e)) ∙ p i l

unmarked : (used : Bool) → eqb (mark used) 0 ≡ not used
unmarked true = refl
unmarked false = refl

-- what is open by the marks is what is free
pub open_free : (w : ℕ) (ls : List Read) (marks : List ℕ) (ms : List Match) (u : Read) → length ls ≤ 1024 → Marked marks ms → lowest_place (open_tests w ls marks u) ≡ first_free w ls ms u
unfolding open_tests first_free is_free
open_free w ls marks ms u l h =
    ap lowest_place
    (map_cong (is_open w ls marks u) (is_free w ls ms u) (range 0 (length ls))
    (All-mono (λ j. j < length ls) (λ j. is_open w ls marks u j ≡ is_free w ls ms u j)
    (λ j q. ap (λ (b : Bool). b && may_match w u (read_at ls j)) (ap (λ (k : ℕ). eqb k 0) (h j (omega arith)) ∙ unmarked (mem eqb j (lowers_of ms)))) (range 0 (length ls)) (upto-below (length ls))))

-- ---- what is written

pub numbers_append : (ms ns : List Match) → match_numbers (ms ++ ns) ≡ match_numbers ms ++ match_numbers ns
unfolding match_numbers
numbers_append = concat-map_append (λ (m : Match). m.upper ∷ m.lower ∷ [])

-- one match more is written behind those before
pub written-more : (ms : List Match) (b : List ℕ) (i j : ℕ) → 2 * length ms + 2 ≤ length b →
    set (set (overwrite (match_numbers ms) b) (2 * length ms) i) (2 * length ms + 1) j ≡ overwrite (match_numbers (ms ++ (record { upper = i; lower = j } ∷ []))) b
unfolding match_numbers
written-more ms b i j h =
    over-two 0 (match_numbers ms) b (2 * length ms) i j (length-numbers ms) (omega arith)
    ∙ ap (λ (l : List ℕ). overwrite l b) (sym (numbers_append ms (record { upper = i; lower = j } ∷ [])))
