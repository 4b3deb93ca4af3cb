-- The call's outcome as numbers, and the sizes as the definition has them.
use Rattle.std.specs.Prelude.{◌≡◌}
use Rattle.definition.specs.Refusals.{Buffers}
use Rattle.definition.specs.Call.{Lent, Outcome, answered, refused_at, Result}
use Rattle.pikaplatinum.specs.declared.Reply.{Reply}
use Rattle.pikaplatinum.specs.declared.Sizes.{Sizes}

-- an answer has refusal 0, and a refusal neither beliefs nor endings
abbrev pub reply_to : Outcome → Reply
reply_to (answered b e) = record { refusal = 0; place = 0; beliefs = b; endings = e }
reply_to (refused_at n p) = record { refusal = n; place = p; beliefs = 0; endings = 0 }

-- what is replied, and what every lent buffer holds afterwards, is the definition's result
pub record Answers (r : Reply) (l : Lent) (x : Result) : Type 0 where
  pub reply : r ≡ reply_to x.outcome
  pub lent : l ≡ x.lent

abbrev pub buffers_of : Sizes → Buffers
buffers_of r =
    record {
      work_floats = r.work_floats;
      work_numbers = r.work_numbers;
      belief_numbers = r.belief_numbers;
      belief_floats = r.belief_floats;
      ending_numbers = r.ending_numbers;
      ending_floats = r.ending_floats;
    }
