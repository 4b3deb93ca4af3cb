-- Few lines, and totals that 64 bits hold by far (TotalsFit).
use Rattle.std.specs.Prelude.{ℕ, suc, ◌+◌, ◌*◌, ◌≤◌, ◌≡◌, List, [], ◌∷◌, length}
use Rattle.std.proofs.Common.{arith}
use Rattle.std.proofs.Math.Option.{Option, none, some}
use Rattle.std.proofs.Math.ListN.{get_elem?}
use Rattle.definition.specs.Answer.{PartAnswer}
use Rattle.definition.specs.FileAnswer.{file_answer}
use Rattle.definition.specs.Shift.{bales}
use Rattle.definition.specs.Tonnage.{lines_of, Answers, answer_at, answer_among, tonnage}
use Rattle.claims.specs.Tonnage.{Entry, Good, total, TotalsFit}
use Rattle.weighing_laws.specs.Numbers.{none-some}
use Rattle.weighing_laws.specs.Rows.{rows-read}
use Rattle.weighing_laws.specs.Weighings.{outcomes}
use Rattle.tonnage_laws.specs.Answers.{grams_of_bales}

-- bales rise, and none is over 9,999
few : (a : Answers) (n : ℕ) (ls : List (List ℕ)) (es : List Entry) (m : ℕ) → n ≤ 10000 → Good a n ls es m → (n + length ls ≤ m) × (m ≤ 10000)
few a n [] [] m h g = (omega arith, omega arith)
few a n [] (e ∷ es) m h g = absurd g
few a n (l ∷ ls) [] m h g = absurd g
few a n (l ∷ ls) (e ∷ es) m h g =
    let r = (rows-read n l e.row).0 g.0 in
    let p = r.rising in
    let q = r.bale-most in
    let f = few a (suc e.row.bale) ls es m (omega arith) g.2 in
    (omega (arith, f.0), f.1)

-- an answer among bale files is that of one of them
among_file : (ps : List (List ℕ)) (n : ℕ) (qs : List PartAnswer) → answer_among ps n ≡ some qs → (bs : List ℕ) × (file_answer bs ≡ some qs)
unfolding answer_among answer_at
among_file ps n qs h = go (get_elem? ps n) h
  where
    go : (o : Option (List ℕ)) → answer_at o ≡ some qs → (bs : List ℕ) × (file_answer bs ≡ some qs)
    go none k = absurd (none-some qs k)
    go (some bs) k = (bs, k)

-- a line yields a grade at most 2,000 kilograms
light : (ps : List (List ℕ)) (n : ℕ) (ls : List (List ℕ)) (es : List Entry) (m g : ℕ) → Good (answer_among ps) n ls es m → total g es ≤ 2000000 * length ls
light ps n [] [] m g h = omega arith
light ps n [] (e ∷ es) m g h = absurd h
light ps n (l ∷ ls) [] m g h = absurd h
light ps n (l ∷ ls) (e ∷ es) m g h =
    let r = (rows-read n l e.row).0 h.0 in
    let k = r.kilograms_most in
    let f = among_file ps e.row.bale e.parts h.1 in
    let w = (grams_of_bales f.0 e.parts f.1 e.row).within g in
    let i = light ps (suc e.row.bale) ls es m g h.2 in
    omega arith

pub totals_fit : TotalsFit
unfolding tonnage
totals_fit csv shift k ts h =
    let a = answer_among (bales shift) in
    let s = ((outcomes a csv).accepted k ts).0 h in
    let c = few a 0 (lines_of csv) s.entries s.after (omega arith) s.good in
    let light-all = light (bales shift) 0 (lines_of csv) s.entries s.after in
    (omega (arith, c.0, c.1, s.lines), λ g i. omega (arith, c.0, c.1, s.sums g i, light-all g s.good))
