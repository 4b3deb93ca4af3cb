-- What a bale's listing leaves in the lent slices: the text at the front of one, and the work as the call leaves it.
use Rattle.std.specs.Prelude.{ℕ, ◌≤◌, ◌≡◌, refl, List, [], ◌∷◌, Float, length}
use Rattle.std.proofs.Common.{arith}
use Rattle.definition.specs.Call.{overwrite}
use Rattle.definition.specs.FileAnswer.{file_result}
use Rattle.definition.specs.Listing.{listing}
use Rattle.listing.specs.Front.{front_fits}
use Rattle.bale_answer.specs.Answering.{lent_of}

pub record ListedFrom (bs : List ℕ) (n : ℕ) (wf : List Float) (wn : List ℕ) (out : List ℕ) (wf' : List Float) (wn' : List ℕ) (out' : List ℕ) : Type 0 where
  pub text : out' ≡ overwrite (listing bs) out
  pub long : n ≡ length (listing bs)
  pub work_floats : wf' ≡ (file_result bs (lent_of wf wn)).lent.work_floats
  pub work_numbers : wn' ≡ (file_result bs (lent_of wf wn)).lent.work_numbers

pub record Untouched (n : ℕ) (wf : List Float) (wn : List ℕ) (out : List ℕ) (wf' : List Float) (wn' : List ℕ) (out' : List ℕ) : Type 0 where
  pub text : out' ≡ out
  pub long : n ≡ 0
  pub work_floats : wf' ≡ wf
  pub work_numbers : wn' ≡ wn

-- of what no end word has ended: nothing, or a bale
abbrev pub RestListed : List ℕ → ℕ → List Float → List ℕ → List ℕ → List Float → List ℕ → List ℕ → Type 0
RestListed [] = Untouched
RestListed (x ∷ bs) = ListedFrom (x ∷ bs)

pub untouched : {wf : List Float} {wn out : List ℕ} → Untouched 0 wf wn out wf wn out
untouched = record { text = refl; long = refl; work_floats = refl; work_numbers = refl }

pub none-listed : (bs : List ℕ) (wf : List Float) (wn out : List ℕ) → length bs ≡ 0 → RestListed bs 0 wf wn out wf wn out
none-listed [] wf wn out e = untouched
none-listed (x ∷ bs) wf wn out e = absurd (let z : ⊥ = omega arith in z)

pub rest-listed :
    (bs : List ℕ) {n : ℕ} {wf : List Float} {wn out : List ℕ} {wf' : List Float} {wn' out' : List ℕ} →
    (length bs ≡ 0 → ⊥) → ListedFrom bs n wf wn out wf' wn' out' → RestListed bs n wf wn out wf' wn' out'
rest-listed [] h l = absurd (h refl)
rest-listed (x ∷ bs) h l = l

pub rest-fits :
    (n : ℕ) (wf : List Float) (wn out : List ℕ) (wf' : List Float) (wn' out' : List ℕ) (bs : List ℕ) → RestListed bs n wf wn out wf' wn' out' → n ≤ length out'
rest-fits n wf wn out wf' wn' out' [] h = omega (arith, h.long)
rest-fits n wf wn out wf' wn' out' (x ∷ bs) h = front_fits (listing (x ∷ bs)) out out' n (h.text, h.long)
