-- Draws against a list of limits: the numbers follow one another, and lists of limits that follow one another are one list.
use Rattle.std.specs.Prelude.{ℕ, zero, suc, ◌%◌, ◌<◌, ◌≡◌, refl, Bool, false, List, [], ◌∷◌, ◌++◌, map, ltb, length, get_or, take, drop}
use Rattle.std.proofs.Common.{arith, ap, ◌∙◌, take_at, drop_at}
use Rattle.definition.specs.Lists.{concat}
use Rattle.definition.specs.Trials.{draw, draw_each, any_of, draw_reads}
use Rattle.claims.specs.TriedSettings.{number_after, cut_like}

pub successes_length : (ls : List ℕ) (x : ℕ) → length (draw_each ls x).successes ≡ length ls
unfolding draw_each
successes_length [] x = refl
successes_length (l ∷ ls) x = ap suc (successes_length ls (draw l x).state)

pub draws_state : (ls : List ℕ) (x : ℕ) → (draw_each ls x).state ≡ number_after (length ls) x
unfolding draw_each draw
draws_state [] x = refl
draws_state (l ∷ ls) x = draws_state ls (draw l x).state

-- draw i has the number i + 1
pub draw-at : (ls : List ℕ) (x i : ℕ) → i < length ls → get_or (draw_each ls x).successes i false ≡ ltb (number_after (suc i) x % 1024) (get_or ls i 0)
unfolding draw_each draw
draw-at [] x i h = absurd (let z : ⊥ = omega arith in z)
draw-at (l ∷ ls) x zero h = refl
draw-at (l ∷ ls) x (suc i) h = draw-at ls (draw l x).state i (omega arith)

pub append_successes : (ls ms : List ℕ) (x : ℕ) → (draw_each (ls ++ ms) x).successes ≡ (draw_each ls x).successes ++ (draw_each ms (draw_each ls x).state).successes
unfolding draw_each
append_successes [] ms x = refl
append_successes (l ∷ ls) ms x = ap (λ (bs : List Bool). (draw l x).success ∷ bs) (append_successes ls ms (draw l x).state)

pub append_state : (ls ms : List ℕ) (x : ℕ) → (draw_each (ls ++ ms) x).state ≡ (draw_each ms (draw_each ls x).state).state
unfolding draw_each
append_state [] ms x = refl
append_state (l ∷ ls) ms x = append_state ls ms (draw l x).state

-- a read for each list of limits
pub reads-length : (lss : List (List ℕ)) (x : ℕ) → length (draw_reads lss x).successes ≡ length lss
unfolding draw_reads
reads-length [] x = refl
reads-length (ls ∷ lss) x = ap suc (reads-length lss (draw_each ls x).state)

-- reads draw against all their limits
pub reads-state : (lss : List (List ℕ)) (x : ℕ) → (draw_reads lss x).state ≡ (draw_each (concat lss) x).state
unfolding draw_reads draw_each
reads-state [] x = refl
reads-state (ls ∷ lss) x = reads-state lss (draw_each ls x).state ∙ (let e = append_state ls (concat lss) x in cc)

module _ (ls : List ℕ) (rest : List ℕ) (x : ℕ) where
  -- what is drawn first, and what then
  pub first_successes : take (length ls) (draw_each (ls ++ rest) x).successes ≡ (draw_each ls x).successes
  first_successes = ap (take (length ls)) (append_successes ls rest x) ∙ take_at (draw_each ls x).successes _ (length ls) (successes_length ls x)

  pub later_successes : drop (length ls) (draw_each (ls ++ rest) x).successes ≡ (draw_each rest (draw_each ls x).state).successes
  later_successes = ap (drop (length ls)) (append_successes ls rest x) ∙ drop_at (draw_each ls x).successes _ (length ls) (successes_length ls x)

pub reads-cut : (lss : List (List ℕ)) (x : ℕ) → (draw_reads lss x).successes ≡ map any_of (cut_like lss (draw_each (concat lss) x).successes)
unfolding draw_reads
reads-cut [] x = refl
reads-cut (ls ∷ lss) x =
    let a = first_successes ls (concat lss) x in
    let b = later_successes ls (concat lss) x in
    let r = reads-cut lss (draw_each ls x).state in
    let p : any_of (draw_each ls x).successes ≡ any_of (take (length ls) (draw_each (ls ++ concat lss) x).successes) = cc in
    let q : map any_of (cut_like lss (drop (length ls) (draw_each (ls ++ concat lss) x).successes))
    ≡ map any_of (cut_like lss (draw_each (concat lss) (draw_each ls x).state).successes) =
    ap (λ (bs : List Bool). map any_of (cut_like lss bs)) b in
    cc
