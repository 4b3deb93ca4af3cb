-- Calls of `write`, each given what those before it left of a text. A list of them has their answers, the last one first.
use Rattle.std.specs.Prelude.{ℕ, ◌+◌, ◌-◌, ◌≤◌, ◌<◌, ◌≡◌, refl, ◌⊎◌, Bool, true, false, Option, None, Some, List, [], ◌∷◌, ◌++◌, length, take, drop}
use Rattle.std.proofs.Common.{arith, sym, ◌∙◌, ap, subst, inl, inr, length-drop, drop_of_length-le, drop-drop, take-add, append_assoc, append-nil}
use Rattle.std.specs.List.{concat}
use Rattle.std.proofs.Common.{true≢false, length-append}
use Rattle.std.proofs.lemmas.List.{take-append-le}
use Rattle.std.proofs.lemmas.List.Folds.{concat-append}
use Rattle.std.proofs.Math.Seq.{take-append-add}
use borrow.Author.Rules.{part_to_end}
use Rattle.std.specs.Io.KnownBytes.{Appends}
use Rattle.streams.specs.Calls.{AnsweredWithin, counted, moved, WriteMoves}

-- what is left of the text
abbrev pub left_of : List ℕ → List (Option ℕ) → List ℕ
left_of text [] = text
left_of text (a ∷ bs) = let left = left_of text bs in drop (counted a (length left)) left

-- each answer is one that `write` may give for what was left
abbrev pub WritesAnswered : List ℕ → List (Option ℕ) → Type 0
WritesAnswered text [] = Unit {0}
WritesAnswered text (a ∷ bs) = AnsweredWithin (length (left_of text bs)) a × WritesAnswered text bs

-- the last call took nothing of what was left
abbrev pub Stopped : List ℕ → List (Option ℕ) → Type 0
Stopped text [] = ⊥
Stopped text (a ∷ bs) = counted a (length (left_of text bs)) ≡ 0

-- all went, or the last call took nothing
abbrev pub AllOrStopped : List ℕ → List (Option ℕ) → Bool → Type 0
AllOrStopped text bs true = left_of text bs ≡ []
AllOrStopped text bs false = (0 < length (left_of text bs)) × Stopped text bs

pub record HandedOver (text : List ℕ) (all : Bool) : Type 0 where
  pub answers : List (Option ℕ)
  pub answered : WritesAnswered text answers
  pub ended : AllOrStopped text answers all

-- of a writer whose bytes are known: it holds the text too, or if not all was handed over only a part of it, from its front
abbrev pub HandedOn : Option (List ℕ) → Option (List ℕ) → List ℕ → Bool → Type 0
HandedOn before after text true = Appends before after text
HandedOn before after text false = (k : ℕ) × (k < length text) × Appends before after (take k text)

-- both, of a call that was handed a text
pub record Gone (before after : Option (List ℕ)) (text : List ℕ) (all : Bool) : Type 0 where
  pub calls : HandedOver text all
  pub bytes : HandedOn before after text all

-- ---- a text of which the first `done` bytes went

pub record Handed (text : List ℕ) (done : ℕ) : Type 0 where
  pub answers : List (Option ℕ)
  pub answered : WritesAnswered text answers
  pub left : left_of text answers ≡ drop done text
  pub within : done ≤ length text

-- what the next call is given: the slice from `done` on
abbrev pub rest : List ℕ → ℕ → List ℕ
rest text done = take (length text - done) (drop done text)

-- it answered a
module _ (text : List ℕ) (done : ℕ) (h : Handed text done) (a : Option ℕ) where
  left_is : left_of text h.answers ≡ rest text done
  left_is = h.left ∙ sym (part_to_end text done)

  long : length (rest text done) ≡ length text - done
  long = ap length (part_to_end text done) ∙ length-drop done text

  pub handed_more : AnsweredWithin (length (rest text done)) a → (k : ℕ) → k ≤ length (rest text done) → k ≡ counted a (length (rest text done)) → Handed text (done + k)
  handed_more m k l e =
      record {
        answers = a ∷ h.answers;
        answered = rw left_is (m, h.answered);
        left = rw left_is (rw (sym e, part_to_end text done) (drop-drop k done text));
        within = omega (arith, h.within, l, long);
      }

  pub handed_stopped : AnsweredWithin (length (rest text done)) a → 0 ≡ counted a (length (rest text done)) → done < length text → HandedOver text false
  handed_stopped m e l =
      record {
        answers = a ∷ h.answers;
        answered = rw left_is (m, h.answered);
        ended = rw left_is (rw (sym e) (omega (arith, long, l), refl));
      }

-- ---- what a writer holds, where that is known

pub appends_nothing : (known : Option (List ℕ)) → Appends known known []
appends_nothing None = tt
appends_nothing (Some xs) = sym (append-nil xs)

pub appends-then : (a b c : Option (List ℕ)) (xs ys : List ℕ) → Appends a b xs → Appends b c ys → Appends a c (xs ++ ys)
appends-then None b c xs ys p q = tt
appends-then (Some us) None c xs ys p q = absurd p
appends-then (Some us) (Some vs) None xs ys p q = absurd q
appends-then (Some us) (Some vs) (Some ws) xs ys p q = q ∙ ap (λ (l : List ℕ). l ++ ys) p ∙ append_assoc us xs ys

-- the next call took k bytes of what was left
pub taken-more :
    (a b c : Option (List ℕ)) (text : List ℕ) (done k : ℕ) (got : Option ℕ) → Appends a b (take done text) → WriteMoves b c got (rest text done) →
    k ≡ counted got (length (rest text done)) → Appends a c (take (done + k) text)
taken-more a b c text done k got p q e =
    let new : moved got (rest text done) ≡ take k (drop done text) =
    ap (λ (n : ℕ). take n (rest text done)) (sym e) ∙ ap (take k) (part_to_end text done) in
    subst (Appends a c) (ap (λ (l : List ℕ). take done text ++ l) new ∙ sym (take-add done k text)) (appends-then a b c (take done text) (moved got (rest text done)) p q)

-- ---- texts one after the other

-- each is handed over whole, in this order; or one of them is not, and those before it are
abbrev pub HandedInOrder : List (List ℕ) → Bool → Type 0
HandedInOrder [] true = Unit {0}
HandedInOrder [] false = ⊥
HandedInOrder (t ∷ ts) true = HandedOver t true × HandedInOrder ts true
HandedInOrder (t ∷ ts) false = HandedOver t false ⊎ (HandedOver t true × HandedInOrder ts false)

pub handed_one : (t : List ℕ) (all : Bool) → HandedOver t all → HandedInOrder (t ∷ []) all
handed_one t true h = (h, tt)
handed_one t false h = inl h

module _ (us : List (List ℕ)) where
  pub handed_then : (ts : List (List ℕ)) (all : Bool) → HandedInOrder ts true → HandedInOrder us all → HandedInOrder (ts ++ us) all
  handed_then [] all h g = g
  handed_then (t ∷ ts) true h g = (h.0, handed_then ts true h.1 g)
  handed_then (t ∷ ts) false h g = inr (h.0, handed_then ts false h.1 g)

  -- none behind one that did not go
  pub handed_not : (ts : List (List ℕ)) → HandedInOrder ts false → HandedInOrder (ts ++ us) false
  handed_not [] h = absurd h
  handed_not (t ∷ ts) (inl h) = inl h
  handed_not (t ∷ ts) (inr h) = inr (h.0, handed_not ts h.1)

-- of no byte all goes
pub handed_empty : (all : Bool) → HandedOver [] all → all ≡ true
handed_empty true h = refl
handed_empty false h = absurd (omega (arith, h.ended.0, ap length (none_left h.answers)))
  where
    none_left : (bs : List (Option ℕ)) → left_of [] bs ≡ []
    none_left [] = refl
    none_left (a ∷ bs) = rw (none_left bs) (drop_of_length-le [] {i = counted a 0} (omega arith))

-- ---- and what a writer holds whose bytes are known

-- the texts joined, or if not all went a part of that, from its front
pub record GoneInOrder (before after : Option (List ℕ)) (ts : List (List ℕ)) (all : Bool) : Type 0 where
  pub calls : HandedInOrder ts all
  pub bytes : HandedOn before after (concat ts) all

abbrev pub gone_none : (known : Option (List ℕ)) → GoneInOrder known known [] true
gone_none known = record { calls = tt; bytes = appends_nothing known }

-- behind a text that went
gone-behind : (a b c : Option (List ℕ)) (text more : List ℕ) (all : Bool) → HandedOn a b text true → HandedOn b c more all → HandedOn a c (text ++ more) all
gone-behind a b c text more true p q = appends-then a b c text more p q
gone-behind a b c text more false p (k, few, q) =
    let front = take-append-add text more k in
    (length text + k, omega (arith, length-append text more), subst (Appends a c) (sym front) (appends-then a b c text (take k more) p q))

-- behind one of which a part went nothing goes
gone-no_more : (a b : Option (List ℕ)) (text more : List ℕ) → HandedOn a b text false → HandedOn a b (text ++ more) false
gone-no_more a b text more (k, few, p) =
    let within : k ≤ length text = omega arith in
    (k, omega (arith, length-append text more), subst (Appends a b) (sym (take-append-le k text more within)) p)

pub gone_one : (a b : Option (List ℕ)) (t : List ℕ) (all : Bool) → Gone a b t all → GoneInOrder a b (t ∷ []) all
gone_one a b t all g =
    record { calls = handed_one t all g.calls; bytes = subst (λ (text : List ℕ). HandedOn a b text all) (sym (append-nil t)) g.bytes }

pub gone_then : (a b c : Option (List ℕ)) (us ts : List (List ℕ)) (all : Bool) → GoneInOrder a b ts true → GoneInOrder b c us all → GoneInOrder a c (ts ++ us) all
gone_then a b c us ts all g h =
    record {
      calls = handed_then us ts all g.calls h.calls;
      bytes = subst (λ (text : List ℕ). HandedOn a c text all) (sym (concat-append ts us)) (gone-behind a b c (concat ts) (concat us) all g.bytes h.bytes);
    }

pub gone_not : (a b : Option (List ℕ)) (us ts : List (List ℕ)) → GoneInOrder a b ts false → GoneInOrder a b (ts ++ us) false
gone_not a b us ts g =
    record {
      calls = handed_not us ts g.calls;
      bytes = subst (λ (text : List ℕ). HandedOn a b text false) (sym (concat-append ts us)) (gone-no_more a b (concat ts) (concat us) g.bytes);
    }

-- of no byte all goes, and no text is left
pub gone_empty : (a b : Option (List ℕ)) (all : Bool) → Gone a b [] all → (all ≡ true) × GoneInOrder a b [] true
gone_empty a b true g = (refl, record { calls = tt; bytes = g.bytes })
gone_empty a b false g = absurd (true≢false (sym (handed_empty false g.calls)))
