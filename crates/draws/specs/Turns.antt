-- One turn of each loop of the draws.
use Rattle.std.specs.Prelude.{ℕ, ◌+◌, ◌<◌, ◌≡◌, refl, Bool, true, false, ◌||◌, List, [], ◌∷◌, ◌++◌, map, length, set, replicate}
use Rattle.std.proofs.Common.{add-one, arith, ap, ◌∙◌, length-append, length-set}
use Rattle.std.proofs.Math.Path.{sym}
use Rattle.std.proofs.Math.Bool.{or-false}
use Rattle.std.proofs.lemmas.List.{map-append, replicate-append-replicate}
use Rattle.definition.specs.Lists.{range}
use Rattle.definition.specs.Call.{overwrite}
use Rattle.definition.specs.Trials.{Drawn, draw, Draws, draw_each, any_of, draw_reads, TrialSetting}
use Rattle.graph_laws.specs.Lists.{upto_snoc}
use Rattle.graph_laws.specs.Overwriting.{over-one}
use Rattle.trial_laws.specs.Draws.{append_successes, append_state}
use Rattle.draws.specs.Model.{draw_also, read_drawn}
use Rattle.draws.specs.Present.{count_limits, limits_at}

-- ---- what is drawn, written over the front of a slice

-- the k successes of d stand at the front of l, which was l₀, and d's state is the number
pub record Written (l₀ : List Bool) (k : ℕ) (d : Draws) (l : List Bool) (at : ℕ) : Type 0 where
  pub many : length d.successes ≡ k
  pub same : length l ≡ length l₀
  pub state : at ≡ d.state
  pub front : l ≡ overwrite d.successes l₀

pub none_written : (l : List Bool) (x : ℕ) → Written l 0 (record { successes = []; state = x }) l x
none_written l x = record { many = refl; same = refl; state = refl; front = refl }

abbrev behind : Draws → Drawn → Draws
behind d e = record { successes = d.successes ++ e.success ∷ []; state = e.state }

-- one more draw, from the state that is left, is stored behind them
one_more_lem :
    (l₀ : List Bool) (k : ℕ) (d d' : Draws) (l : List Bool) (at : ℕ) (f : ℕ → Drawn) (e : Drawn) →
    d' ≡ behind d (f d.state) → e ≡ f at → k < length l₀ → Written l₀ k d l at → Written l₀ (k + 1) d' (set l k e.success) e.state
one_more_lem l₀ k d d' l at f e r q h w =
    rw (r, ← w.state, ← q)
    record {
      many = omega (arith, length-append d.successes (e.success ∷ []), w.many);
      same = length-set l k e.success ∙ w.same;
      state = refl;
      front = ap (λ (y : List Bool). set y k e.success) w.front ∙ over-one false d.successes l₀ k e.success w.many h;
    }

each_more : (ls : List ℕ) (l x : ℕ) → draw_each (ls ++ l ∷ []) x ≡ behind (draw_each ls x) (draw l (draw_each ls x).state)
unfolding draw_each
each_more ls l x = let s = append_successes ls (l ∷ []) x in let e = append_state ls (l ∷ []) x in λ i. record { successes = s i; state = e i }

reads_more : (lss : List (List ℕ)) (ls : List ℕ) (x : ℕ) → draw_reads (lss ++ ls ∷ []) x ≡ behind (draw_reads lss x) (read_drawn ls (draw_reads lss x).state)
unfolding draw_reads read_drawn
reads_more [] ls x = refl
reads_more (k ∷ lss) ls x =
    ap (λ (d : Draws). record { successes = any_of (draw_each k x).successes ∷ d.successes; state = d.state }) (reads_more lss ls (draw_each k x).state)

-- ---- the grades

pub grades-turn :
    (prior x : ℕ) (p₀ p : List Bool) (at g : ℕ) (d : Drawn) →
    d ≡ draw prior at → g < length p₀ → Written p₀ g (draw_each (replicate g prior) x) p at →
    Written p₀ (g + 1) (draw_each (replicate (g + 1) prior) x) (set p g d.success) d.state
grades-turn prior x p₀ p at g d =
    one_more_lem p₀ g (draw_each (replicate g prior) x) (draw_each (replicate (g + 1) prior) x) p at (draw prior) d
    (ap (λ (ls : List ℕ). draw_each ls x) (sym (replicate-append-replicate g 1 prior)) ∙ each_more (replicate g prior) prior x)

-- ---- a marker

any_more : (bs : List Bool) (b : Bool) → any_of (bs ++ b ∷ []) ≡ (any_of bs || b)
any_more [] b = or-false b
any_more (true ∷ bs) b = refl
any_more (false ∷ bs) b = any_more bs b

read_more : (ls : List ℕ) (l x : ℕ) → read_drawn (ls ++ l ∷ []) x ≡ draw_also l (read_drawn ls x)
unfolding read_drawn draw_also
read_more ls l x =
    let d = draw_each ls x in
    let a = any_more d.successes (draw l d.state).success in
    rw each_more (λ i. record { success = a i; state = (draw l d.state).state })

module _ (t : TrialSetting) (x : ℕ) where
  pub marker_none : draw t.beta x ≡ read_drawn (count_limits t 0) x
  unfolding read_drawn draw_each
  marker_none = let d = draw t.beta x in let e = sym (or-false d.success) in λ i. record { success = e i; state = d.state }

  pub marker_turn : (k : ℕ) (d : Drawn) → d ≡ read_drawn (count_limits t k) x → draw_also t.alpha d ≡ read_drawn (count_limits t (k + 1)) x
  marker_turn k d e =
      ap (draw_also t.alpha) e ∙ sym (read_more (count_limits t k) t.alpha x)
      ∙ ap (λ (l : List ℕ). read_drawn (t.beta ∷ l) x) (replicate-append-replicate k 1 t.alpha)

-- ---- the markers

pub reads-turn :
    (t : TrialSetting) (x : ℕ) (cs : List ℕ) (reads₀ reads : List Bool) (at m : ℕ) (d : Drawn) →
    d ≡ read_drawn (limits_at t cs m) at → m < length reads₀ → Written reads₀ m (draw_reads (map (limits_at t cs) (range 0 m)) x) reads at →
    Written reads₀ (m + 1) (draw_reads (map (limits_at t cs) (range 0 (m + 1))) x) (set reads m d.success) d.state
reads-turn t x cs reads₀ reads at m d =
    let own = limits_at t cs in
    one_more_lem reads₀ m (draw_reads (map own (range 0 m)) x) (draw_reads (map own (range 0 (m + 1))) x) reads at (read_drawn (own m)) d
    (ap (λ (k : ℕ). draw_reads (map own (range 0 k)) x) (add-one m)
    ∙ ap (λ (l : List ℕ). draw_reads (map own l) x) (upto_snoc m)
    ∙ ap (λ (y : List (List ℕ)). draw_reads y x) (map-append own (range 0 m) (m ∷ []))
    ∙ reads_more (map own (range 0 m)) (own m) x)
