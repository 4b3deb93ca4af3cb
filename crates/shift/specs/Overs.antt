-- What went over, piece by piece: where nothing came, where a piece ends a bale or does not, and where more comes.
use Rattle.std.specs.Prelude.{ℕ, ◌+◌, ◌^◌, ◌≤◌, ◌<◌, ◌≡◌, refl, Bool, true, false, Option, List, [], ◌∷◌, ◌++◌, map, Float, length, take, drop}
use Rattle.std.proofs.Common.{arith, sym, ap, subst, ◌∙◌, inl, inr, true≢false, append_assoc, append-nil, length-append, length-drop, take-append-drop, take-add, take_all, length-take-le}
use Rattle.std.proofs.lemmas.List.{map-append}
use borrow.Author.Rules.{part_to_end}
use Rattle.definition.specs.BaleFile.{words, words_of_kind}
use Rattle.definition.specs.Listing.{listing}
use Rattle.definition.specs.Shift.{bales}
use Rattle.claims.specs.ShiftCut.{NoEnd, EndedBale}
use Rattle.shift_laws.specs.Cut.{last_bale}
use Rattle.shift_laws.specs.Ended.{ended_bales, open_bale, bales_split, open_short, none-ended, all_open, ended-first, open_first, ended-more, open_more}
use Rattle.listing.specs.Front.{front-is}
use Rattle.streams.specs.Writes.{rest, Gone, GoneInOrder, gone_one, gone_then, gone_not, gone_empty}
use Rattle.streams.specs.declared.input.Phase.{Phase}
use Rattle.streams.specs.declared.input.Phase.TheVariants.{Reading, Whole, TooLong, Unreadable}
use Rattle.bale_answer.specs.declared.input.Input.{Input}
use Rattle.bale_listing.specs.declared.next.Listed.{Listed}
use Rattle.shift.specs.declared.input.Went.{Went}
use Rattle.bale_answer.specs.Open.{OpenIn}
use Rattle.bale_listing.specs.Lent.{RestListed}
use Rattle.bale_listing.specs.Next.{NextListed}
use Rattle.shift.specs.Program.{texts_at}
use Rattle.shift.specs.Shifts.{WentOver}

abbrev pub went : Input → Bool → Went
went i b = record { input = i; written = b }

-- bytes with no end word are held
pub went_open : (a b : Option (List ℕ)) (p : List ℕ) (i : Input) (ms ps : List ℕ) → GoneInOrder a b [] true → OpenIn p i ms ps → WentOver a b p (went i true) ms ps
went_open a b p i ms ps g h =
    record {
      handed = rw (none-ended p h.no_end) g;
      held = λ e. rw (all_open p h.no_end) h;
      markers_now = h.taken.taken.markers_now;
      pairs_now = h.taken.taken.pairs_now;
    }

-- the listings of the bales that were ended
abbrev texts : List ℕ → List (List ℕ)
texts bs = map listing (ended_bales bs)

-- ---- the cut of an ended bale, and of all

no_byte : NoEnd []
unfolding words words_of_kind
no_byte = refl

module _ (q : List ℕ) (h : EndedBale q) where
  ended-only : ended_bales q ≡ q ∷ []
  ended-only = ap ended_bales (sym (append-nil q)) ∙ ended-first h [] ∙ ap (λ (es : List (List ℕ)). q ∷ es) (none-ended [] no_byte)

  open_none : open_bale q ≡ []
  open_none = ap open_bale (sym (append-nil q)) ∙ open_first h [] ∙ all_open [] no_byte

bales_are : (bs : List ℕ) → map listing (bales bs) ≡ texts bs ++ map listing (last_bale (open_bale bs))
bales_are bs = ap (map listing) (bales_split bs) ∙ map-append listing (ended_bales bs) (last_bale (open_bale bs))

-- ---- more bytes

module _ (bs xs : List ℕ) where
  ended_are : texts (bs ++ xs) ≡ texts bs ++ texts (open_bale bs ++ xs)
  ended_are = ap (map listing) (ended-more bs xs) ∙ map-append listing (ended_bales bs) (ended_bales (open_bale bs ++ xs))

  -- behind those of which all went
  pub went-more :
      (a b c : Option (List ℕ)) (v w : Went) (ms ps ns qs : List ℕ) → WentOver a b bs v ms ps → v.written ≡ true → WentOver b c (open_bale bs ++ xs) w ns qs →
      WentOver a c (bs ++ xs) w ns qs
  went-more a b c v w ms ps ns qs h e g =
      record {
        handed = rw ended_are (gone_then a b c (texts (open_bale bs ++ xs)) (texts bs) w.written (rw e at h.handed) g.handed);
        held = λ f. rw (open_more bs xs) (g.held f);
        markers_now = g.markers_now;
        pairs_now = g.pairs_now;
      }

  -- behind a bale that did not go
  pub went-not : (a b : Option (List ℕ)) (w : Went) (ms ps : List ℕ) → WentOver a b bs w ms ps → w.written ≡ false → WentOver a b (bs ++ xs) w ms ps
  went-not a b w ms ps h e =
      record {
        handed = rw (ended_are, e) (gone_not a b (texts (open_bale bs ++ xs)) (texts bs) (rw e at h.handed));
        held = λ f. absurd (true≢false (sym f ∙ e));
        markers_now = h.markers_now;
        pairs_now = h.pairs_now;
      }

-- ---- a piece behind bytes with no end word, and what of it was listed next

module _ (p piece : List ℕ) (r : Listed) (ns qs : List ℕ) (wf : List Float) (wn out : List ℕ) (wf' : List Float) (wn' out' : List ℕ) where
  -- the writer held a before that listing, and z behind it
  module _ (a z : Option (List ℕ)) (b : Bool) (o : Gone a z (take r.len out') b) where
    pub went-next : NextListed p piece r ns qs wf wn out wf' wn' out' → WentOver a z (p ++ take r.used piece) (went r.input b) ns qs
    went-next (inl h) =
        let q = p ++ take r.used piece in
        let t : Gone a z (listing q) b = subst (λ (text : List ℕ). Gone a z text b) (front-is (listing q) out out' r.len (h.listed.text, h.listed.long)) o in
        let e = ended-only q h.ended in
        let f = open_none q h.ended in
        record {
          handed = rw e (gone_one a z (listing q) b t);
          held = λ g. rw f h.next;
          markers_now = h.next.taken.taken.markers_now;
          pairs_now = h.next.taken.taken.pairs_now;
        }
    went-next (inr h) =
        let (e, none) = gone_empty a z b (subst (λ (n : ℕ). Gone a z (take n out') b) h.untouched.long o) in
        let w : WentOver a z (p ++ piece) (went r.input b) ns qs = rw e (went_open a z (p ++ piece) r.input ns qs none h.held) in
        subst (λ (l : List ℕ). WentOver a z (p ++ l) (went r.input b) ns qs) (sym (take_all r.used piece (omega (arith, h.all)))) w

-- ---- a piece of which k bytes went over

module _ (bs piece : List ℕ) (k : ℕ) where
  abbrev before : List ℕ
  before = bs ++ take k piece

  abbrev behind : List ℕ
  behind = rest piece k

  joined : (u : ℕ) → before ++ take u behind ≡ bs ++ take (k + u) piece
  joined u =
      append_assoc bs (take k piece) (take u behind)
      ∙ ap (λ (l : List ℕ). bs ++ l) (ap (λ (l : List ℕ). take k piece ++ take u l) (part_to_end piece k) ∙ sym (take-add k u piece))

  pub went_step :
      (a y z : Option (List ℕ)) (i : Input) (ms ps : List ℕ) (r : Listed) (ns qs : List ℕ) (wf : List Float) (wn out : List ℕ) (wf' : List Float) (wn' out' : List ℕ) (b : Bool) →
      WentOver a y before (went i true) ms ps → NextListed (open_bale before) behind r ns qs wf wn out wf' wn' out' → Gone y z (take r.len out') b →
      WentOver a z (bs ++ take (k + r.used) piece) (went r.input b) ns qs
  went_step a y z i ms ps r ns qs wf wn out wf' wn' out' b h n o =
      let w = went r.input b in
      let x = went-next (open_bale before) behind r ns qs wf wn out wf' wn' out' y z b o n in
      subst (λ (l : List ℕ). WentOver a z l w ns qs) (joined r.used) (went-more before (take r.used behind) a y z (went i true) w ms ps ns qs h refl x)

  pub went-all : (a z : Option (List ℕ)) (w : Went) (ms ps : List ℕ) → WentOver a z before w ms ps → length piece ≤ k → WentOver a z (bs ++ piece) w ms ps
  went-all a z w ms ps h l = subst (λ (r : List ℕ). WentOver a z (bs ++ r) w ms ps) (take_all k piece l) h

  pub went-stopped :
      (a z : Option (List ℕ)) (i : Input) (ms ps : List ℕ) → WentOver a z before (went i false) ms ps → WentOver a z (bs ++ piece) (went i false) ms ps
  went-stopped a z i ms ps h =
      let e = append_assoc bs (take k piece) (drop k piece) ∙ ap (λ (l : List ℕ). bs ++ l) (take-append-drop k piece) in
      subst (λ (l : List ℕ). WentOver a z l (went i false) ms ps) e (went-not before (drop k piece) a z (went i false) ms ps h refl)

  -- what is held and what is behind it can be counted
  pub countable : (i : Input) (ms ps : List ℕ) → OpenIn (open_bale before) i ms ps → k ≤ length piece → length bs + length piece < 2 ^ 64 → i.bytes + length behind < 2 ^ 64
  countable i ms ps h l f =
      omega (arith, h.taken.counted, open_short before, length-append bs (take k piece), length-take-le k piece l, ap length (part_to_end piece k), length-drop k piece)

-- ---- at the end of the input

module _ (n : ℕ) (wf : List Float) (wn out : List ℕ) (wf' : List Float) (wn' out' : List ℕ) where
  -- the writer held y before the last listing, and z behind it
  module _ (y z : Option (List ℕ)) (b : Bool) (g : Gone y z (take n out') b) where
    rest_handed : (o : List ℕ) → RestListed o n wf wn out wf' wn' out' → GoneInOrder y z (map listing (last_bale o)) b
    rest_handed [] h = let (e, none) = gone_empty y z b (subst (λ (m : ℕ). Gone y z (take m out') b) h.long g) in rw e none
    rest_handed (x ∷ l) h =
        let t = listing (x ∷ l) in
        gone_one y z t b (subst (λ (text : List ℕ). Gone y z text b) (front-is t out out' n (h.text, h.long)) g)

    -- the last bale too, if there is one
    pub whole_handed :
        (a : Option (List ℕ)) (bs : List ℕ) → GoneInOrder a y (texts bs) true → RestListed (open_bale bs) n wf wn out wf' wn' out' →
        GoneInOrder a z (map listing (bales bs)) b
    whole_handed a bs e h = rw (bales_are bs) (gone_then a y z (map listing (last_bale (open_bale bs))) (texts bs) b e (rest_handed (open_bale bs) h))

-- a bale that did not go before
pub texts-not : (a b : Option (List ℕ)) (p : Phase) (bs : List ℕ) → GoneInOrder a b (texts bs) false → GoneInOrder a b (texts_at p bs) false
texts-not a b Whole bs h = rw (bales_are bs) (gone_not a b (map listing (last_bale (open_bale bs))) (texts bs) h)
texts-not a b Reading bs h = h
texts-not a b TooLong bs h = h
texts-not a b Unreadable bs h = h
