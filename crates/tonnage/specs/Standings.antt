-- What a tally says of the lines and of the bales that have ended.
use Rattle.std.specs.Prelude.{ℕ, ◌*◌, ◌≤◌, ◌≡◌, Bool, true, false, Result, Ok, Err, List, ◌++◌, length, get_or}
use Rattle.definition.specs.Tonnage.{Weighing, weighed, refused_at, weighing, answer_among}
use Rattle.checks.specs.declared.refusal.Check.TheVariants as check
use Rattle.checks.specs.declared.refusal.Refusal.{Refusal}
use Rattle.checks.specs.Verdicts.{number_of}
use Rattle.weights.specs.Reading.{GoodAt, MalformedAt}
use Rattle.tonnage.specs.Steps.{weighing_at}
use Rattle.tonnage.specs.declared.tally.Standing.{Standing}
use Rattle.tonnage.specs.declared.tally.Standing.TheVariants.{Waiting, Weighed, Refused}
use Rattle.tonnage.specs.declared.tally.Tally.{Tally}

abbrev pub is_waiting : Standing → Bool
is_waiting (Waiting l) = true
is_waiting Weighed = false
is_waiting (Refused c) = false

-- what the line from a place on says
abbrev pub StandsAt : ℕ → List ℕ → ℕ → Standing → Type 0
StandsAt next csv at (Waiting l) = GoodAt next csv at l.bale l.kilograms l.after
StandsAt next csv at Weighed = length csv ≤ at
StandsAt next csv at (Refused c) = (c ≡ check.MalformedLine) × MalformedAt next csv at

-- ---- the lines before the next were weighed, and their bales are among the ended ones es

-- whatever bales follow, the weighing is that of the lines from place `at` on, with these sums so far
pub record Upto (csv : List ℕ) (es : List (List ℕ)) (at lines next : ℕ) (sums : List ℕ) : Type 0 where
  pub same : (qs : List (List ℕ)) → weighing (answer_among (es ++ qs)) csv ≡ weighing_at (answer_among (es ++ qs)) csv at lines next sums
  pub few : lines ≤ next
  pub long : length sums ≡ 1024
  pub low : (g : ℕ) → get_or sums g 0 ≤ 2000000 * lines

-- the next line waits for bale b, which has not ended
pub record Waits (csv : List ℕ) (es : List (List ℕ)) (lines ended b w after : ℕ) (sums : List ℕ) : Type 0 where
  pub at : ℕ
  pub next : ℕ
  pub upto : Upto csv es at lines next sums
  pub line : GoodAt next csv at b w after
  pub counted : ended ≡ length es
  pub ahead : ended ≤ b

-- whatever bales follow, this is the weighing
abbrev pub Decided : List ℕ → List (List ℕ) → Weighing → Type 0
Decided csv es x = (qs : List (List ℕ)) → weighing (answer_among (es ++ qs)) csv ≡ x

abbrev pub Stands : List ℕ → List (List ℕ) → Standing → ℕ → ℕ → List ℕ → Type 0
Stands csv es (Waiting l) lines ended sums = Waits csv es lines ended l.bale l.kilograms l.after sums
Stands csv es Weighed lines ended sums = Decided csv es (weighed lines sums)
Stands csv es (Refused c) lines ended sums = Decided csv es (refused_at (number_of c) lines)

pub record HoldsTally (csv : List ℕ) (es : List (List ℕ)) (t : Tally) (sums : List ℕ) : Type 0 where
  pub stands : Stands csv es t.standing t.lines t.bales sums
  pub long : length sums ≡ 1024

pub record SomeTally (csv : List ℕ) (t : Tally) (sums : List ℕ) : Type 0 where
  pub ended : List (List ℕ)
  pub holds : HoldsTally csv ended t sums

-- the outcome, with the sums, as the definition has it
abbrev pub weighing_with : Result ℕ Refusal → List ℕ → Weighing
weighing_with (Ok k) ts = weighed k ts
weighing_with (Err r) ts = refused_at (number_of r.check) r.place
