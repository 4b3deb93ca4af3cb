-- The run of a part up to its loop: the opening and five sweeps.
use Rattle.std.specs.Prelude.{ℕ, zero, suc, ◌+◌, ◌-◌, ◌≡◌, refl, List, Float}
use Rattle.std.proofs.Common.{add-one, sym, ap, ◌∙◌, subst}
use Rattle.definition.specs.Settings.{Settings}
use Rattle.definition.specs.Directions.{MessageGraph}
use Rattle.definition.specs.Sweeps.{Store, opening, sweep}
use Rattle.definition.specs.Run.{Ended, begin_loop, apply_event, state_after, opening_and_sweeps, loop, run}
use Rattle.part.specs.Ending.{Ends, Ran}
use Rattle.part.specs.declared.run.Ending.{Ending}

-- the store after k sweeps
unfoldable pub swept : Settings → MessageGraph → ℕ → Store → Store
swept s t zero x = x
swept s t (suc k) x = sweep s t (swept s t k x)

pub swept_none : (s : Settings) (t : MessageGraph) (x : Store) → swept s t 0 x ≡ x
unfolding swept
swept_none s t x = refl

pub swept-next : (s : Settings) (t : MessageGraph) (k : ℕ) (x : Store) → sweep s t (swept s t k x) ≡ swept s t (k + 1) x
unfolding swept
swept-next s t k x = ap (λ (n : ℕ). swept s t n x) (sym (add-one k))

-- the loop begins where the five sweeps end
run_is : (s : Settings) (t : MessageGraph) → loop s t (s.loop_limit - 5) (begin_loop s t (swept s t 5 (opening s t))) ≡ run s t
unfolding run state_after opening_and_sweeps apply_event begin_loop swept
run_is s t = refl

pub ran : (s : Settings) (t : MessageGraph) (out : ℕ) (evidence : List Float) (ending : Ending) (steps : ℕ) (words : List ℕ) (w : List Float) (limit left : ℕ) → s.loop_limit ≡ limit → left ≡ limit - 5
    → Ends s t out evidence (loop s t left (begin_loop s t (swept s t 5 (opening s t)))) ending steps words w → Ran s t out evidence ending steps words w
ran s t out evidence ending steps words w limit left e f E =
    let x = begin_loop s t (swept s t 5 (opening s t)) in
    let q : loop s t left x ≡ run s t = ap (λ (n : ℕ). loop s t n x) (f ∙ ap (λ (n : ℕ). n - 5) (sym e)) ∙ run_is s t in
    subst (λ (z : Ended). Ends s t out evidence z ending steps words w) q E
