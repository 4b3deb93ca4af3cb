-- A call of `read`: what it answered, and what its buffer held then.
use Rattle.std.specs.Prelude.{ℕ, ◌≡◌, Option, List, [], ◌∷◌, length}
use Rattle.streams.specs.Calls.{AnsweredWithin, moved}

pub record ReadCall : Type 0 where
  pub answer : Option ℕ
  pub buffer : List ℕ

abbrev pub read_call : Option ℕ → List ℕ → ReadCall
read_call got buffer = record { answer = got; buffer = buffer }

-- the bytes that it gave: none where it failed, or where the input has ended
abbrev pub given : ReadCall → List ℕ
given r = moved r.answer r.buffer

-- each was lent n bytes, and answered what it may
abbrev pub ReadsAnswered : ℕ → List ReadCall → Type 0
ReadsAnswered n [] = Unit {0}
ReadsAnswered n (r ∷ rs) = ((length r.buffer ≡ n) × AnsweredWithin n r.answer) × ReadsAnswered n rs
