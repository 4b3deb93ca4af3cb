-- A call of the library: what it returns, and what every buffer holds afterwards.
use Rattle.std.specs.Prelude.{ℕ, List, ◌++◌, Float, length, drop, replicate}
use Rattle.definition.specs.Floats.{zeroᶠ}
use Rattle.definition.specs.Settings.{Settings}
use Rattle.definition.specs.FactorGraph.{Bale}
use Rattle.definition.specs.Answer.{PartAnswer, answer, answered_beliefs, belief_numbers, belief_floats, ending_numbers, ending_floats}
use Rattle.definition.specs.Refusals.{Buffers, Verdict, accepted, refused, work_needed, bale_of, verdict}

-- What the caller lends, and gets back.
pub record Lent : Type 0 where
  pub work_floats : List Float
  pub work_numbers : List ℕ
  pub belief_numbers : List ℕ
  pub belief_floats : List Float
  pub ending_numbers : List ℕ
  pub ending_floats : List Float

unfoldable pub sizes_of : Lent → Buffers
sizes_of l =
    record {
      work_floats = length l.work_floats;
      work_numbers = length l.work_numbers;
      belief_numbers = length l.belief_numbers;
      belief_floats = length l.belief_floats;
      ending_numbers = length l.ending_numbers;
      ending_floats = length l.ending_floats;
    }

-- so many beliefs and so many endings were written; or the refusal's number and place
pub data Outcome : Type 0 where
  answered : ℕ → ℕ → Outcome
  refused_at : ℕ → ℕ → Outcome

pub record Result : Type 0 where
  pub outcome : Outcome
  pub lent : Lent

-- l written over the front of m
abbrev pub overwrite {ℓ} : {A : Type ℓ} → List A → List A → List A
overwrite l m = l ++ drop (length l) m

-- An answer stands at the front of its buffers, and the work that was needed is zero.
unfoldable pub answered_by : ℕ → List PartAnswer → Lent → Result
answered_by w ps l =
    let bs = answered_beliefs ps in
    record {
      outcome = answered (length bs) (length ps);
      lent = record {
        work_floats = overwrite (replicate w zeroᶠ) l.work_floats;
        work_numbers = overwrite (replicate w 0) l.work_numbers;
        belief_numbers = overwrite (belief_numbers bs) l.belief_numbers;
        belief_floats = overwrite (belief_floats bs) l.belief_floats;
        ending_numbers = overwrite (ending_numbers ps) l.ending_numbers;
        ending_floats = overwrite (ending_floats ps) l.ending_floats;
      };
    }

-- a refusal leaves every buffer as it was
unfoldable pub result_of : Verdict → Settings → Bale → Lent → Result
result_of accepted s b l = answered_by (work_needed b) (answer s b) l
result_of (refused n p) s b l = record { outcome = refused_at n p; lent = l }

-- the settings, the grade count, two floats for each marker, two numbers for each pair
unfoldable pub call : Settings → ℕ → List Float → List ℕ → Lent → Result
call s g es ps l = let b = bale_of g es ps in result_of (verdict s (sizes_of l) b) s b l
