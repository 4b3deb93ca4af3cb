-- A shift's listing, made bale by bale, against a text: what is left of the two decides.
use Rattle.std.specs.Prelude.{ℕ, ◌+◌, ◌-◌, ◌≤◌, ◌≡◌, refl, Bool, true, false, ◌&&◌, List, [], ◌∷◌, ◌++◌, map, eqb, Float, length, take, drop}
use Rattle.std.proofs.Common.{arith, sym, ap, ◌∙◌, subst, inl, inr, append_assoc, length-append, length-drop, take-append-drop, drop_of_length-le, length-take-le, drop-drop}
use Rattle.std.specs.Str.{bytes_eq}
use Rattle.std.specs.List.{starts_with}
use Rattle.definition.specs.Lists.{concat}
use Rattle.definition.specs.Listing.{listing}
use Rattle.definition.specs.Shift.{shift_listing}
use Rattle.claims.specs.ShiftCut.{NoEnd, EndedBale}
use Rattle.graph_laws.specs.Lists.{append_none}
use Rattle.shift_laws.specs.Cut.{last_bale, bales-ended, bales_open}
use Rattle.listing.specs.Front.{front-is}
use Rattle.bale_answer.specs.declared.input.Input.{Input}
use Rattle.bale_listing.specs.declared.next.Listed.{Listed}
use Rattle.bale_answer.specs.Taken.{TakenIn}
use Rattle.bale_answer.specs.Open.{OpenIn, none_open}
use Rattle.bale_listing.specs.Lent.{RestListed}
use Rattle.bale_listing.specs.Next.{NextListed, next_fits, next-within}
use Rattle.replay.specs.Same.{starts_fits, same-joined}

-- `at` bytes of the file were taken in, of which `bytes` are not listed yet, and the text begins with the listing of the others, `told` bytes: so what is
-- left of the two is compared as the whole is.
pub record ToldTo (file text : List ℕ) (at told : ℕ) (i : Input) (ms ps : List ℕ) : Type 0 where
  pub bytes : List ℕ
  pub held : OpenIn bytes i ms ps
  pub few : length bytes ≤ at
  pub within : at ≤ length file
  pub fits : told ≤ length text
  pub left : bytes_eq (shift_listing (bytes ++ drop at file)) (drop told text) ≡ bytes_eq (shift_listing file) text

pub none_told : {file text : List ℕ} {i : Input} {ms ps : List ℕ} → TakenIn [] i ms ps → ToldTo file text 0 0 i ms ps
none_told {i = i} {ms = ms} {ps = ps} t =
    record { bytes = []; held = none_open i ms ps t; few = omega arith; within = omega arith; fits = omega arith; left = refl }

-- ---- the next bale

first-listed : (p rest : List ℕ) → EndedBale p → shift_listing (p ++ rest) ≡ listing p ++ shift_listing rest
unfolding shift_listing
first-listed p rest e = ap (λ (ps : List (List ℕ)). concat (map listing ps)) (bales-ended e rest)

-- What a piece behind the bytes bs adds to the listing stands at the front of `out`.
record Added (bs piece : List ℕ) (r : Listed) (ms ps out : List ℕ) : Type 0 where
  pub bytes : List ℕ
  pub held : OpenIn bytes r.input ms ps
  pub few : length bytes ≤ length bs + r.used
  pub listed : shift_listing (bs ++ piece) ≡ take r.len out ++ shift_listing (bytes ++ drop r.used piece)

module _ (bs piece : List ℕ) (r : Listed) (ms ps : List ℕ) (wf : List Float) (wn out : List ℕ) (wf' : List Float) (wn' out' : List ℕ) where
  added : NextListed bs piece r ms ps wf wn out wf' wn' out' → Added bs piece r ms ps out'
  added (inl b) =
      let p = bs ++ take r.used piece in
      let front = front-is (listing p) out out' r.len (b.listed.text, b.listed.long) in
      record {
        bytes = [];
        held = b.next;
        few = omega arith;
        listed =
            ap (λ (l : List ℕ). shift_listing (bs ++ l)) (sym (take-append-drop r.used piece))
            ∙ ap shift_listing (sym (append_assoc bs (take r.used piece) (drop r.used piece)))
            ∙ first-listed p (drop r.used piece) b.ended
            ∙ ap (λ (l : List ℕ). l ++ shift_listing (drop r.used piece)) (sym front);
      }
  added (inr s) =
      let none : drop r.used piece ≡ [] = drop_of_length-le piece {i = r.used} (omega (arith, s.all)) in
      record {
        bytes = bs ++ piece;
        held = s.held;
        few = omega (arith, s.all, length-append bs piece);
        listed =
            ap shift_listing (sym (append_none (bs ++ piece)) ∙ ap (λ (l : List ℕ). (bs ++ piece) ++ l) (sym none))
            ∙ ap (λ (n : ℕ). take n out' ++ shift_listing ((bs ++ piece) ++ drop r.used piece)) (sym s.untouched.long);
      }

module _
    {file text : List ℕ} {at told : ℕ} {i : Input} {ms ps : List ℕ} {r : Listed} {ms' ps' piece : List ℕ}
    {wf : List Float} {wn out : List ℕ} {wf' : List Float} {wn' out' : List ℕ}
    (t : ToldTo file text at told i ms ps) (e : piece ≡ drop at file)
    (n : NextListed t.bytes piece r ms' ps' wf wn out wf' wn' out') where
  next : Added t.bytes (drop at file) r ms' ps' out'
  next = subst (λ (p : List ℕ). Added t.bytes p r ms' ps' out') e (added t.bytes piece r ms' ps' wf wn out wf' wn' out' n)

  fits : r.len ≤ length out'
  fits = next_fits t.bytes piece r ms' ps' wf wn out wf' wn' out' n

  long : length piece ≡ length file - at
  long = ap length e ∙ length-drop at file

  pub used_within : at + r.used ≤ length file
  used_within = omega (arith, t.within, next-within t.bytes piece r ms' ps' wf wn out wf' wn' out' n, long)

  -- what is left is the front, and what is left behind it
  abbrev begun : Bool
  begun = starts_with eqb (drop told text) (take r.len out')

  abbrev behind : Bool
  behind = bytes_eq (shift_listing (next.bytes ++ drop (at + r.used) file)) (drop (told + r.len) text)

  parted : bytes_eq (shift_listing file) text ≡ begun && behind
  parted =
      let rest : List ℕ = shift_listing (next.bytes ++ drop r.used (drop at file)) in
      let to : drop (length (take r.len out')) (drop told text) ≡ drop (told + r.len) text =
      ap (λ (k : ℕ). drop k (drop told text)) (length-take-le r.len out' fits) ∙ drop-drop r.len told text in
      sym t.left
      ∙ ap (λ (l : List ℕ). bytes_eq l (drop told text)) next.listed
      ∙ same-joined (take r.len out') rest (drop told text)
      ∙ (λ j. begun && bytes_eq (shift_listing (next.bytes ++ drop-drop r.used at file j)) (to j))

  pub told_not : starts_with eqb (drop told text) (take r.len out') ≡ false → bytes_eq (shift_listing file) text ≡ false
  told_not h = parted ∙ ap (λ (b : Bool). b && behind) h

  pub told_more : starts_with eqb (drop told text) (take r.len out') ≡ true → ToldTo file text (at + r.used) (told + r.len) r.input ms' ps'
  told_more h =
      record {
        bytes = next.bytes;
        held = next.held;
        few = omega (arith, next.few, t.few);
        within = used_within;
        fits =
            omega (arith, t.fits, starts_fits (drop told text) (take r.len out') h, length-take-le r.len out' fits, length-drop told text);
        left = sym (parted ∙ ap (λ (b : Bool). b && behind) h);
      }

-- ---- what no end word has ended

last-listed : (p : List ℕ) → NoEnd p → shift_listing p ≡ concat (map listing (last_bale p))
unfolding shift_listing
last-listed p h = ap (λ (ps : List (List ℕ)). concat (map listing ps)) (bales_open p h)

module _ (n : ℕ) (wf : List Float) (wn out : List ℕ) (wf' : List Float) (wn' out' : List ℕ) where
  rest-is : (bs : List ℕ) → RestListed bs n wf wn out wf' wn' out' → take n out' ≡ concat (map listing (last_bale bs))
  rest-is [] l = ap (λ (k : ℕ). take k out') l.long
  rest-is (x ∷ bs) l = front-is (listing (x ∷ bs)) out out' n (l.text, l.long) ∙ sym (append_none (listing (x ∷ bs)))

  pub all_told : {file text : List ℕ} {at told : ℕ} {i : Input} {ms ps : List ℕ} (t : ToldTo file text at told i ms ps) → length file ≤ at
      → RestListed t.bytes n wf wn out wf' wn' out' → bytes_eq (take n out') (drop told text) ≡ bytes_eq (shift_listing file) text
  all_told {file = file} {text = text} {at = at} {told = told} t h l =
      let none : t.bytes ++ drop at file ≡ t.bytes = ap (λ (k : List ℕ). t.bytes ++ k) (drop_of_length-le file h) ∙ append_none t.bytes in
      ap (λ (k : List ℕ). bytes_eq k (drop told text)) (rest-is t.bytes l ∙ sym (last-listed t.bytes t.held.no_end) ∙ ap shift_listing (sym none))
      ∙ t.left
