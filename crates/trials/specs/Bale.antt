-- One made-up bale: what its run asks for, and what it adds.
use Rattle.std.specs.Prelude.{ℕ, ◌+◌, ◌*◌, ◌/◌, ◌^◌, ◌≤◌, ◌<◌, ◌≡◌, refl, Bool, false, List, Float, take, replicate}
use Rattle.std.proofs.Common.{arith, ap, ◌∙◌, subst, take_at}
use Rattle.std.proofs.Math.Path.{sym}
use Rattle.std.proofs.Math.ListN.{length, length-map}
use Rattle.std.proofs.lemmas.List.{length-replicate}
use Rattle.definition.specs.Floats.{zeroᶠ}
use Rattle.definition.specs.Lists.{how_many}
use Rattle.definition.specs.Settings.{Settings}
use Rattle.definition.specs.FactorGraph.{Bale}
use Rattle.definition.specs.Answer.{answer, answered_beliefs}
use Rattle.definition.specs.Refusals.{accepted, work_needed, pairs_of, bale_of, verdict}
use Rattle.definition.specs.Call.{overwrite}
use Rattle.definition.specs.Reads.{read_evidence}
use Rattle.definition.specs.Trials.{TrialSetting, MadeUp, made_up, judgements, agrees, differs}
use Rattle.graph_laws.specs.AnswerSizes.{AnswerSizes, answer-sizes}
use Rattle.report_laws.specs.Unread.{work-same}
use Rattle.trial_laws.specs.Accepted.{made_presences, made_reads}
use Rattle.draws.specs.Model.{DrewBale}
use Rattle.draws.specs.Present.{Known, GraphOf}
use Rattle.reads.specs.Put.{read_floats, markers_of_reads, length-reads}
use Rattle.reads.specs.Ran.{room_with, Ran}
use Rattle.reads.specs.Room.{read-bale}
use Rattle.trials.specs.declared.trial.Trial.{Trial}
use Rattle.trials.specs.Tally.{Tallied, judged_to, BeliefsStand, stands_tallied, BaleTallied, bale-tallied}

-- the graph of m markers, each read weakly, which stands for every graph of as many
abbrev pub weak_bale : ℕ → ℕ → List ℕ → Bale
weak_bale g m ps = bale_of g (read_floats (replicate m false)) ps

-- the pairs name what is there, whatever is read is accepted, and the needed work is zero
pub record Tryable (s : Settings) (g m : ℕ) (ps : List ℕ) (wf : List Float) (wn : List ℕ) : Type 0 where
  pub grades : g ≤ 1024
  pub markers : m ≤ 1024
  pub pairs : length ps / 2 ≤ 8192
  pub known : Known g m ps
  pub accepts : (rs : List Bool) → length rs ≡ m → verdict s (room_with (length wf) (length wn) 1024 2048) (bale_of g (read_floats rs) ps) ≡ accepted
  pub clear_floats : overwrite (replicate (work_needed (weak_bale g m ps)) zeroᶠ) wf ≡ wf
  pub clear_numbers : overwrite (replicate (work_needed (weak_bale g m ps)) 0) wn ≡ wn

-- the bale is made up from the state before, and its judgements are added
pub record TriedBale (s : Settings) (t : TrialSetting) (g m : ℕ) (ps : List ℕ) (before after : Trial) : Type 0 where
  pub state : after.state ≡ (made_up t (weak_bale g m ps) before.state).state
  pub agreed : after.agreed ≡ before.agreed + how_many agrees (judgements s (weak_bale g m ps) (made_up t (weak_bale g m ps) before.state))
  pub differed : after.differed ≡ before.differed + how_many differs (judgements s (weak_bale g m ps) (made_up t (weak_bale g m ps) before.state))

-- settings and work that are the same are as good
pub tryable_same :
    (s s' : Settings) (g m : ℕ) (ps : List ℕ) (wf wf' : List Float) (wn wn' : List ℕ) → s' ≡ s → wf' ≡ wf → wn' ≡ wn →
    Tryable s g m ps wf wn → Tryable s' g m ps wf' wn'
tryable_same s s' g m ps wf wf' wn wn' d e f T = rw (d, e, f) T

-- ---- the run

-- as many markers
pub weak_markers : (g m : ℕ) (ps : List ℕ) → length (weak_bale g m ps).markers ≡ m
unfolding bale_of
weak_markers g m ps = ap length (markers_of_reads (replicate m false)) ∙ length-map (replicate m false) read_evidence ∙ length-replicate m false

pub weak_graph : (g m : ℕ) (ps : List ℕ) → GraphOf (weak_bale g m ps) g m ps
unfolding bale_of
weak_graph g m ps = record { grades = refl; markers = weak_markers g m ps; pairs = refl }

-- what is drawn, as evidence
evidence-front :
    (m : ℕ) (rs strong s₀ : List Bool) (es e₀ : List Float) → length rs ≡ m → strong ≡ overwrite rs s₀ → es ≡ overwrite (read_floats (take m strong)) e₀ →
    take (2 * m) es ≡ read_floats rs
evidence-front m rs strong s₀ es e₀ n d e =
    ap (take (2 * m)) (e ∙ ap (λ (l : List Bool). overwrite (read_floats l) e₀) (ap (take m) d ∙ take_at rs _ m n))
    ∙ take_at (read_floats rs) _ (2 * m) (omega (arith, length-reads rs))

module _
    (s : Settings) (t : TrialSetting) (g m : ℕ) (ps : List ℕ) (wf : List Float) (wn : List ℕ) (T : Tryable s g m ps wf wn)
    (x : ℕ) (p₀ r₀ : List Bool) (y : ℕ) (p r : List Bool) (D : DrewBale (made_up t (weak_bale g m ps) x) p₀ r₀ y p r)
    (es e₀ : List Float) (E : es ≡ overwrite (read_floats (take m r)) e₀) where
  abbrev b : Bale
  b = weak_bale g m ps

  abbrev d : MadeUp
  d = made_up t (weak_bale g m ps) x

  read-long : length d.reads ≡ m
  read-long = made_reads t b x ∙ weak_markers g m ps

  -- the part that is lent has n floats
  module _ (n : ℕ) (len : n ≡ 2 * m) where
    run-as-read : bale_of g (take n es) ps ≡ bale_of g (read_floats (made_up t (weak_bale g m ps) x).reads) ps
    run-as-read = ap (λ (k : ℕ). bale_of g (take k es) ps) len ∙ ap (λ (l : List Float). bale_of g l ps) (evidence-front m d.reads r r₀ es e₀ read-long D.reads E)

    pub drawn_accepted : verdict s (room_with (length wf) (length wn) 1024 2048) (bale_of g (take n es) ps) ≡ accepted
    drawn_accepted = ap (verdict s (room_with (length wf) (length wn) 1024 2048)) run-as-read ∙ T.accepts d.reads read-long

    module _ (bn₀ : List ℕ) (bf₀ : List Float) (count : ℕ) (wf' : List Float) (wn' bn : List ℕ) (bf : List Float)
        (R : Ran s (bale_of g (take n es) ps) wf wn bn₀ bf₀ count wf' wn' bn bf) where
      abbrev q : Bale
      q = bale_of g (read_floats (made_up t (weak_bale g m ps) x).reads) ps

      ran : Ran s (bale_of g (read_floats (made_up t (weak_bale g m ps) x).reads) ps) wf wn bn₀ bf₀ count wf' wn' bn bf
      ran = subst (λ (y : Bale). Ran s y wf wn bn₀ bf₀ count wf' wn' bn bf) run-as-read R

      sizes : AnswerSizes s (bale_of g (read_floats (made_up t (weak_bale g m ps) x).reads) ps)
      sizes = answer-sizes s (room_with (length wf) (length wn) 1024 2048) q (T.accepts d.reads read-long)

      stands : BeliefsStand (answered_beliefs (answer s (bale_of g (read_floats (made_up t (weak_bale g m ps) x).reads) ps))) (made_up t (weak_bale g m ps) x).presences g count bn₀ bn bf₀ bf p₀ p
      unfolding bale_of
      stands =
          record {
            once = sizes.once;
            below = sizes.below;
            two = sizes.floats;
            drawn = made_presences t b x;
            count = ran.count;
            numbers = ran.numbers;
            floats = ran.floats;
            draws = D.presences;
          }

      pub drawn_tallied : (a c : ℕ) → a + 1024 < 2 ^ 32 → c + 1024 < 2 ^ 32 → Tallied count bn bf p a c
      unfolding bale_of
      drawn_tallied a c = stands_tallied stands a c (omega (arith, sizes.beliefs, ran.count, T.grades))

      tallied : BaleTallied s (weak_bale g m ps) (made_up t (weak_bale g m ps) x) count bn bf p
      unfolding bale_of
      tallied = bale-tallied s b d q (read-bale g (read_floats (replicate m false)) ps d.reads) stands

      pub bale_tried :
          (a c a' c' : ℕ) → a' ≡ a + how_many agrees (judged_to count bn bf p) → c' ≡ c + how_many differs (judged_to count bn bf p) →
          TriedBale s t g m ps (record { agreed = a; differed = c; state = x }) (record { agreed = a'; differed = c'; state = y })
      bale_tried a c a' c' u v =
          record { state = D.state; agreed = u ∙ ap (λ (k : ℕ). a + k) tallied.agreed; differed = v ∙ ap (λ (k : ℕ). c + k) tallied.differed }

      -- the needed work was zero, and is
      same-work : work_needed (bale_of g (read_floats (made_up t (weak_bale g m ps) x).reads) ps) ≡ work_needed (weak_bale g m ps)
      unfolding bale_of
      same-work = work-same g (pairs_of ps) _ _ (ap length (markers_of_reads d.reads) ∙ length-map d.reads read_evidence ∙ read-long ∙ sym (weak_markers g m ps))

      pub floats_kept : wf' ≡ wf
      floats_kept = ran.work_floats ∙ ap (λ (w : ℕ). overwrite (replicate w zeroᶠ) wf) same-work ∙ T.clear_floats

      pub numbers-kept : wn' ≡ wn
      numbers-kept = ran.work_numbers ∙ ap (λ (w : ℕ). overwrite (replicate w 0) wn) same-work ∙ T.clear_numbers
