-- S-31 of the definition: what a tree sends that is built in a run from an opening is within 2 ^ -10 of the exact fractions.
use Rattle.std.specs.Prelude.{◌≡◌, refl, List, [], ◌∷◌, map, ℕ, zero, suc, ◌+◌, ◌*◌, ◌≤◌, ◌<◌, length, take, replicate, Float}
use Rattle.std.proofs.Common.{sym, ◌∙◌, subst, le_trans, mul-pos, le_of_suc-le-suc, arith, lit≤}
use Rattle.std.proofs.lemmas.List.{length-map}
use Rattle.float_laws.specs.Error.{val32, units-exact}
use Rattle.float_laws.specs.Totals.{at_most-finite}
use Rattle.definition.specs.Floats.{c}
use Rattle.definition.specs.Lists.{range}
use Rattle.definition.specs.Vectors.{Message, entry, normalize, avoid_underflow_all}
use Rattle.definition.specs.ConvolutionTree.{tree_layers, log_length, first_layer, tree_messages}
use Rattle.definition.specs.Directions.{message_graph_of, message_at}
use Rattle.definition.specs.Messages.{tree_out_messages}
use Rattle.graph_laws.specs.Lengths.{Long, tree_shape}
use Rattle.graph_laws.specs.Sending.{Goods, tree_in_force}
use Rattle.graph_laws.specs.Structure.{part_graph_kept}
use Rattle.graph_laws.specs.Unread.{length-built}
use Rattle.message_bounds.specs.Bounded.{BoundedEntries}
use Rattle.message_bounds.specs.Normalized.{entry-at_most}
use Rattle.message_bounds.specs.Held.{entry-over}
use Rattle.message_bounds.specs.Trees.{trees_bounded}
use Rattle.message_bounds.specs.Accepted.{settings_in_range, evidence_bounded}
use Rattle.message_bounds.specs.Sending.{keeps}
use Rattle.message_bounds.specs.Bounds.{all_of}
use Rattle.claims.specs.ExactSums.{AllWhole, Near, NearExact, NearExactOf, BuiltNearExact, sum_over, factor_sum, grade_sum, without}
use Rattle.tree_error.specs.Weights.{Leaf, weight, like, total, sum_weights}
use Rattle.tree_error.specs.Layers.{counts, leaf_of}
use Rattle.tree_error.specs.Fraction.{Close}
use Rattle.tree_error.specs.Sent.{to-factor, to-grade}
use Rattle.tree_error.specs.Patterns.{factor-sum, grade-sum, sum_entries}

-- ---- each entry is a whole number of units
all_whole : (ms : List Message) → Goods BoundedEntries ms → AllWhole ms
all_whole [] g = tt
all_whole ([] ∷ ms) g = all_whole ms g.1
all_whole ((x ∷ m) ∷ ms) g = (sym (units-exact x g.0.0.holds (at_most-finite 1 x (lit≤ tt) (entry-at_most x g.0.0))), all_whole (m ∷ ms) (g.0.1, g.1))

-- ---- an entry for each number of present grades to the factor, and two to each grade
long-lengths : (k : ℕ) (ms : List Message) → Long k ms → map length ms ≡ replicate (length ms) k
long-lengths k [] l = refl
long-lengths k (m ∷ ms) l = cc (l.0, long-lengths k ms l.1)

sent-lengths : (f : Message) (ms : List Message) → 2 ≤ length ms → Long 2 ms → map length (tree_messages f ms) ≡ suc (length ms) ∷ replicate (length ms) 2
unfolding tree_messages tree_out_messages
sent-lengths f ms h l =
    let t = tree_layers (log_length (length ms)) (normalize f) (first_layer ms) in
    let s = tree_shape f ms h l in
    shaped (length ms) (avoid_underflow_all (take (suc (length ms)) t.root))
    (map (λ (x : List Float). avoid_underflow_all (take 2 x)) (take (length ms) t.likelihoods)) s.0 s.1 (length-built (f ∷ ms))
  where
    shaped : (n : ℕ) (m : Message) (ms : List Message) → length m ≡ suc n → Long 2 ms → suc (length ms) ≡ suc n → map length (m ∷ ms) ≡ suc n ∷ replicate n 2
    shaped n m ms e l d = let z : length ms ≡ n = omega arith in cc (e, long-lengths 2 ms l, z)

-- ---- no divisor is zero
abbrev AllSome : List Leaf → Type 0
AllSome [] = Unit {0}
AllSome (l ∷ ls) = (0 < l.absent) × AllSome ls

first_some : (m : Message) → 0 < length m → BoundedEntries m → 0 < val32 (entry 0 m)
first_some [] h b = absurd (let z : ⊥ = omega arith in z)
first_some (x ∷ m) h b = le_trans (let z : 0 < val32 c = lit≤ tt in z) (entry-over x b.0)

all-some : (ms : List Message) → Long 2 ms → Goods BoundedEntries ms → AllSome (map leaf_of ms)
all-some [] l g = tt
all-some (m ∷ ms) l g = (first_some m (omega (arith, l.0)) g.0, all-some ms l.1 g.1)

without-some : (i : ℕ) (ls : List Leaf) → AllSome ls → AllSome (without i ls)
without-some i [] s = tt
without-some zero (l ∷ ls) s = s.1
without-some (suc i) (l ∷ ls) s = (s.0, without-some i ls s.1)

more : (a b : ℕ) → 0 < a → 0 < a + b
more a b h = omega arith

total-some : (ls : List Leaf) → AllSome ls → 0 < total ls
total-some [] s = lit≤ tt
total-some (l ∷ ls) s = mul-pos (more l.absent l.present s.0) (total-some ls s.1)

like-some : (F : ℕ → ℕ) (ls : List Leaf) (t : ℕ) → 0 < F t → AllSome ls → 0 < like F ls t
like-some F [] t h s = h
like-some F (l ∷ ls) t h s = more (l.absent * like F ls t) (l.present * like F ls (suc t)) (mul-pos s.0 (like-some F ls t h s.1))

-- ---- what a tree sends
near_of : (x : Float) (n d n' d' : ℕ) → n' ≡ n → d' ≡ d → 0 < d → Close 1024 (val32 x) n d → Near x n' d'
near_of x n d n' d' p q h o = subst (λ (z : ℕ). Near x z d') (sym p) (subst (λ (z : ℕ). Near x n z) (sym q) (record { divisor = h; over = o.0; under = o.1 }))

module _ (f : Message) (ms : List Message) (two : 2 ≤ length ms) (few : length ms ≤ 64) (e : length f ≡ suc (length ms)) (b : BoundedEntries f) (l : Long 2 ms) (g : Goods BoundedEntries ms) where
  abbrev ls : List Leaf
  ls = map leaf_of ms

  abbrev sent : List Message
  sent = tree_messages f ms

  near_factor : (k : ℕ) → k < suc (length ms) → Near (entry k (message_at 0 sent)) (factor_sum ms k) (sum_over (factor_sum ms) (range 0 (suc (length ms))))
  near_factor k h =
      near_of (entry k (message_at 0 sent)) (weight k ls) (total ls) (factor_sum ms k) _ (factor-sum ms k)
      (sum_entries (suc (length ms)) (factor_sum ms) (λ (i : ℕ). weight i ls) (factor-sum ms) ∙ sum_weights (suc (length ms)) ls (omega (arith, length-map ms leaf_of)))
      (total-some ls (all-some ms l g)) (to-factor f ms few e b l g k (le_of_suc-le-suc h))

  near_grade : (i t : ℕ) → i < length ms → t < 2 → Near (entry t (message_at (suc i) sent)) (grade_sum f ms i t) (sum_over (grade_sum f ms i) (range 0 2))
  near_grade i t h q =
      let x = like (counts f) (without i ls) in
      near_of (entry t (message_at (suc i) sent)) (x t) (x 0 + x 1) (grade_sum f ms i t) _ (grade-sum f ms i t h q)
      (omega (arith, grade-sum f ms i 0 h (lit≤ tt), grade-sum f ms i 1 h (lit≤ tt)))
      (more (x 0) (x 1) (like-some (counts f) (without i ls) 0 (first_some f (omega arith) b) (without-some i ls (all-some ms l g)))) (to-grade f ms few e b l g i t h q)

  pub near_exact : NearExact f ms sent
  near_exact =
      record {
        whole = (all_whole (f ∷ ms) (b, g), all_whole sent (trees_bounded f ms (omega arith) e b l g));
        lengths = sent-lengths f ms two l;
        factor = near_factor;
        grade = near_grade;
      }

-- ---- of a run
near_exact_of : (f : Message) (ms : List Message) → 2 ≤ length ms → length ms ≤ 128 → length f ≡ suc (length ms) → BoundedEntries f → Long 2 ms → Goods BoundedEntries ms → NearExactOf (f ∷ ms)
unfolding tree_out_messages
near_exact_of f ms two _ e b l g few = near_exact f ms two few e b l g

pub built_near_exact : BuiltNearExact
built_near_exact s f b n p h fits es x v t =
    tree_in_force BoundedEntries s (message_graph_of b p) (keeps s (settings_in_range s f b h.accepts fits.settings))
    (part_graph_kept BoundedEntries s f b n p h (all_of _ b.markers (evidence_bounded s f b h.accepts fits.evidence))) NearExactOf near_exact_of es x v t
