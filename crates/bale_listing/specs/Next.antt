-- What a piece of the input is behind the bytes of a bale that was not ended yet: it ends that bale, which is listed, or it does not.
use Rattle.std.specs.Prelude.{ℕ, ◌≤◌, ◌<◌, ◌≡◌, Bool, true, false, ◌⊎◌, List, [], ◌++◌, Float, length, take}
use Rattle.std.proofs.Common.{arith, subst, inl, inr}
use Rattle.definition.specs.Listing.{listing}
use Rattle.claims.specs.ShiftCut.{EndedBale}
use Rattle.listing.specs.Front.{front_fits}
use Rattle.bale_answer.specs.declared.input.Input.{Input}
use Rattle.bale_answer.specs.Taken.{Taken, SomeTaken, TakenIn}
use Rattle.bale_answer.specs.Open.{OpenIn, TookTo, none_open}
use Rattle.bale_listing.specs.declared.next.Listed.{Listed}
use Rattle.bale_listing.specs.Lent.{ListedFrom, Untouched, untouched}

pub record BaleListed (bs piece : List ℕ) (r : Listed) (ms ps : List ℕ) (wf : List Float) (wn out : List ℕ) (wf' : List Float) (wn' out' : List ℕ) : Type 0 where
  pub some : 0 < r.used
  pub within : r.used ≤ length piece
  pub ended : EndedBale (bs ++ take r.used piece)
  pub listed : ListedFrom (bs ++ take r.used piece) r.len wf wn out wf' wn' out'
  pub next : OpenIn [] r.input ms ps

pub record StillOpen (bs piece : List ℕ) (r : Listed) (ms ps : List ℕ) (wf : List Float) (wn out : List ℕ) (wf' : List Float) (wn' out' : List ℕ) : Type 0 where
  pub all : r.used ≡ length piece
  pub held : OpenIn (bs ++ piece) r.input ms ps
  pub untouched : Untouched r.len wf wn out wf' wn' out'

abbrev pub NextListed : List ℕ → List ℕ → Listed → List ℕ → List ℕ → List Float → List ℕ → List ℕ → List Float → List ℕ → List ℕ → Type 0
NextListed bs piece r ms ps wf wn out wf' wn' out' = BaleListed bs piece r ms ps wf wn out wf' wn' out' ⊎ StillOpen bs piece r ms ps wf wn out wf' wn' out'

module _ (p piece : List ℕ) (r : Listed) (ns qs : List ℕ) (wf : List Float) (wn out : List ℕ) (wf' : List Float) (wn' out' : List ℕ) where
  pub next_fits : NextListed p piece r ns qs wf wn out wf' wn' out' → r.len ≤ length out'
  next_fits (inl h) = front_fits (listing (p ++ take r.used piece)) out out' r.len (h.listed.text, h.listed.long)
  next_fits (inr h) = omega (arith, h.untouched.long)

  pub next-some : NextListed p piece r ns qs wf wn out wf' wn' out' → 0 < length piece → 0 < r.used
  next-some (inl h) l = h.some
  next-some (inr h) l = omega (arith, h.all)

  pub next-within : NextListed p piece r ns qs wf wn out wf' wn' out' → r.used ≤ length piece
  next-within (inl h) = h.within
  next-within (inr h) = omega (arith, h.all)

-- ---- what was taken in of a piece

module _ (bs piece : List ℕ) (e : Bool) (n : ℕ) (i : Input) (ms ps : List ℕ) (took : TookTo e bs piece n i ms ps) where
  ends : e ≡ true → TookTo true bs piece n i ms ps
  ends h = subst (λ b. TookTo b bs piece n i ms ps) h took

  pub some-taken : e ≡ true → SomeTaken i.decoder ms ps
  some-taken h = record { bytes = bs ++ take n piece; taken = (ends h).3.taken }

  module _ {wf : List Float} {wn out : List ℕ} where
    -- the bale is listed, and the next begins
    pub bale-listed :
        e ≡ true → (j : Input) → ((ms ps : List ℕ) → length ms ≡ 24 → length ps ≡ 140 → TakenIn [] j ms ps) →
        (k : ℕ) (wf' : List Float) (wn' out' : List ℕ) → ((cs : List ℕ) → Taken cs i.decoder ms ps → ListedFrom cs k wf wn out wf' wn' out') →
        NextListed bs piece (record { input = j; used = n; len = k }) ms ps wf wn out wf' wn' out'
    bale-listed h j begun k wf' wn' out' l =
        let t = ends h in
        let u = t.3.taken in
        let b = begun ms ps u.markers_now u.pairs_now in
        inl (record { some = t.0; within = t.1; ended = t.2; listed = l (bs ++ take n piece) u; next = none_open j ms ps b })

    pub still_open : e ≡ false → NextListed bs piece (record { input = i; used = n; len = 0 }) ms ps wf wn out wf wn out
    still_open h =
        let t = subst (λ b. TookTo b bs piece n i ms ps) h took in
        inr (record { all = t.0; held = t.1; untouched = untouched })
