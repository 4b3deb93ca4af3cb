-- What a call of `read` or `write` answered, how many bytes or that it failed, and which bytes it moved where they are known.
use Rattle.std.specs.Prelude.{ℕ, ◌≡◌, ◌≤◌, ◌<◌, min, Option, None, Some, List, length, take}
use Rattle.std.specs.Io.KnownBytes.{Appends, Consumes, IsAtEnd}

-- it was lent n bytes, and moved no more
abbrev pub AnsweredWithin : ℕ → Option ℕ → Type 0
AnsweredWithin n (Some k) = k ≤ n
AnsweredWithin n None = Unit {0}

-- how many of n bytes moved, whatever was answered
abbrev pub counted : Option ℕ → ℕ → ℕ
counted (Some k) n = min k n
counted None n = 0

-- the bytes that moved, at the front of those that were lent
abbrev pub moved : Option ℕ → List ℕ → List ℕ
moved a lent = take (counted a (length lent)) lent

-- a reader gave these from the front of what it had left, and none only at its end or where there was no room
abbrev pub ReadMoves : Option (List ℕ) → Option (List ℕ) → Option ℕ → List ℕ → Type 0
ReadMoves before after a buffer = Consumes before after (moved a buffer) × (a ≡ Some 0 → 0 < length buffer → IsAtEnd after)

-- a writer appended these to what it held
abbrev pub WriteMoves : Option (List ℕ) → Option (List ℕ) → Option ℕ → List ℕ → Type 0
WriteMoves before after a text = Appends before after (moved a text)
