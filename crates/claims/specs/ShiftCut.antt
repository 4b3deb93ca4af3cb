-- A shift's input cut into bales, and its listing (document 02, S-12), stated in full.
use Rattle.std.specs.Prelude.{ℕ, ◌%◌, ◌<◌, ◌≡◌, ◌⊎◌, List, [], ◌∷◌, ◌++◌, map, length}
use Rattle.std.proofs.Math.Option.{none}
use Rattle.definition.specs.Lists.{concat}
use Rattle.definition.specs.BaleFile.{words, word_kind, bad_word, words_of_kind}
use Rattle.definition.specs.Listing.{refusal, listing}
use Rattle.definition.specs.Shift.{bales, shift_listing}
use Rattle.claims.specs.FileRefused.{kind_before}

-- ---- the cut

-- no whole word of kind 6
abbrev pub NoEnd : List ℕ → Type 0
NoEnd p = words_of_kind 6 (words p) ≡ []

-- whole words, of which the last and no other is of kind 6
pub record EndedBale (p : List ℕ) : Type 0 where
  pub whole : length p % 4 ≡ 0
  pub before : List ℕ
  pub end : ℕ
  pub words_are : words p ≡ before ++ end ∷ []
  pub ends : word_kind end ≡ 6
  pub only : words_of_kind 6 before ≡ []

-- what has begun, and was not ended
pub record OpenBale (p : List ℕ) : Type 0 where
  pub begun : 0 < length p
  pub no_end : NoEnd p

-- each is ended, but the last may be open
abbrev pub EndedButLast : List (List ℕ) → Type 0
EndedButLast [] = Unit {0}
EndedButLast (p ∷ []) = EndedBale p ⊎ OpenBale p
EndedButLast (p ∷ q ∷ ps) = EndedBale p × EndedButLast (q ∷ ps)

-- Joined, the bales are the input, each but the last ends in its only whole word of kind 6, and no other list of pieces is so.
pub record CutIntoBales (bs : List ℕ) : Type 0 where
  pub joined : concat (bales bs) ≡ bs
  pub ended : EndedButLast (bales bs)
  pub only : (ps : List (List ℕ)) → concat ps ≡ bs → EndedButLast ps → ps ≡ bales bs

-- nothing, or whole words of which the last is of kind 6
abbrev pub AtBaleEnd : List ℕ → Type 0
AtBaleEnd a = (a ≡ []) ⊎ ((length a % 4 ≡ 0) × (kind_before (words a) (length (words a)) ≡ 6))

-- the cut of two inputs joined there is the two cuts joined
abbrev pub CutsJoined : Type 0
CutsJoined = (a b : List ℕ) → AtBaleEnd a → bales (a ++ b) ≡ bales a ++ bales b

-- ---- the listing

abbrev pub AllGood : List (List ℕ) → Type 0
AllGood [] = Unit {0}
AllGood (f ∷ fs) = (bad_word f ≡ none) × AllGood fs

pub record ShiftListed : Type 0 where
  -- good files one after the other are listed as each is run singly
  pub singly : (fs : List (List ℕ)) → AllGood fs → shift_listing (concat fs) ≡ concat (map listing fs)
  -- so is a file of one bale, good or not
  pub one : (bs : List ℕ) → length (bales bs) ≡ 1 → shift_listing bs ≡ listing bs
  pub none : shift_listing [] ≡ []
  pub joined : (a b : List ℕ) → AtBaleEnd a → shift_listing (a ++ b) ≡ shift_listing a ++ shift_listing b
  -- a bale that was not ended is refused with number 9; of no whole word, at 0
  pub unended : (p : List ℕ) → OpenBale p → (i : ℕ) × (listing p ≡ refusal 9 i)
  pub short : (p : List ℕ) → 0 < length p → length p < 4 → listing p ≡ refusal 9 0
