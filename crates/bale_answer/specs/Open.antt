-- A bale that was not ended yet, and what was taken in of the bytes behind it.
use Rattle.std.specs.Prelude.{ℕ, ◌+◌, ◌^◌, ◌≤◌, ◌<◌, ◌≡◌, refl, Bool, true, false, List, [], ◌++◌, length, take}
use Rattle.std.proofs.Common.{arith, sym, ap, ◌∙◌, subst, length-take-le, take_all}
use Rattle.definition.specs.BaleFile.{words, words_of_kind}
use Rattle.claims.specs.ShiftCut.{NoEnd, EndedBale}
use Rattle.bale_file.specs.declared.decoder.FedBale.{FedBale}
use Rattle.bale_file.specs.Decoder.{Fed, FedTo, fed_of, started, fed, fed_bale_of, fed_bale}
use Rattle.bale_file.specs.FirstBale.{fed-part, used_within, ended_some, ended-bale, open_bale_lem}
use Rattle.bale_answer.specs.declared.input.Input.{Input}
use Rattle.bale_answer.specs.Taken.{TakenIn, taken_more}

-- bs is what came since the last end word
pub record OpenIn (bs : List ℕ) (i : Input) (ms ps : List ℕ) : Type 0 where
  pub taken : TakenIn bs i ms ps
  pub no_end : NoEnd bs

pub record SomeOpenIn (i : Input) (ms ps : List ℕ) : Type 0 where
  pub bytes : List ℕ
  pub held : OpenIn bytes i ms ps

-- the first n bytes of a piece behind bs end the bale; or there is no end word, and all of it was taken in
abbrev pub TookTo : Bool → List ℕ → List ℕ → ℕ → Input → List ℕ → List ℕ → Type 0
TookTo true bs piece n i ms ps = (0 < n) × (n ≤ length piece) × EndedBale (bs ++ take n piece) × TakenIn (bs ++ take n piece) i ms ps
TookTo false bs piece n i ms ps = (n ≡ length piece) × OpenIn (bs ++ piece) i ms ps

pub none_open : (i : Input) (ms ps : List ℕ) → TakenIn [] i ms ps → OpenIn [] i ms ps
unfolding words words_of_kind
none_open i ms ps t = record { taken = t; no_end = refl }

-- ---- the next bytes

pub used_of_piece : (piece : List ℕ) (f : Fed) (r : FedBale) (ns qs : List ℕ) → fed_bale_of r ns qs ≡ fed_bale piece f → r.used ≤ length piece
used_of_piece piece f r ns qs e = subst (λ (n : ℕ). n ≤ length piece) (sym (ap (λ (t : FedTo). t.used) e)) (used_within piece f)

module _
    (bs piece : List ℕ) (i : Input) (ms ps ns qs : List ℕ) (r : FedBale) (o : OpenIn bs i ms ps) (h : i.bytes + length piece < 2 ^ 64)
    (is-fed : fed_bale_of r ns qs ≡ fed_bale piece (fed_of i.decoder ms ps)) (m : length ns ≡ length ms) (p : length qs ≡ length ps) where
  abbrev j : Input
  j = record { decoder = r.decoder; bytes = i.bytes + r.used }

  abbrev start : Fed
  start = fed_of i.decoder ms ps

  abbrev mb : List ℕ
  mb = o.taken.taken.markers_before

  abbrev pb : List ℕ
  pb = o.taken.taken.pairs_before

  fed-on : fed_bale_of r ns qs ≡ fed_bale piece (fed bs (fed_of started mb pb))
  fed-on = is-fed ∙ ap (fed_bale piece) o.taken.taken.is-fed

  within : r.used ≤ length piece
  within = used_of_piece piece start r ns qs is-fed

  part : TakenIn (bs ++ take r.used piece) j ns qs
  part =
      let n = length-take-le r.used piece within in
      let f : fed_of j.decoder ns qs ≡ fed (take r.used piece) start =
      ap (λ (t : FedTo). t.fed_to) is-fed
      ∙ fed-part piece start
      ∙ ap (λ (k : ℕ). fed (take k piece) start) (sym (ap (λ (t : FedTo). t.used) is-fed)) in
      taken_more bs (take r.used piece) i j ms ps ns qs o.taken (omega (arith, n, within, h)) f m p (omega (arith, n))

  by_end : (b : Bool) → r.ended ≡ b → TookTo b bs piece r.used j ns qs
  by_end true q = (
    subst (λ (n : ℕ). 0 < n) (sym (ap (λ (t : FedTo). t.used) is-fed)) (ended_some piece start (sym (ap (λ (t : FedTo). t.ended) is-fed) ∙ q)),
    within,
    subst
        (λ (n : ℕ). EndedBale (bs ++ take n piece))
        (sym (ap (λ (t : FedTo). t.used) fed-on))
        (ended-bale bs piece mb pb o.no_end (sym (ap (λ (t : FedTo). t.ended) fed-on) ∙ q)),
    part,
  )
  by_end false q =
      let x = open_bale_lem bs piece mb pb o.no_end (sym (ap (λ (t : FedTo). t.ended) fed-on) ∙ q) in
      let n : r.used ≡ length piece = ap (λ (t : FedTo). t.used) fed-on ∙ x.0 in (
        n,
        record { taken = subst (λ (l : List ℕ). TakenIn (bs ++ l) j ns qs) (take_all r.used piece (omega (arith, n))) part; no_end = x.1 },
      )

  pub took : TookTo r.ended bs piece r.used j ns qs
  took = by_end r.ended refl
