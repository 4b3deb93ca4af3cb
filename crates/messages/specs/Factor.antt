-- A factor's message from its table as a row of floats.
use Rattle.std.specs.Prelude.{◌≡◌, refl, Bool, true, false, cond, List, [], ◌∷◌, map, ℕ, ◌+◌, ◌*◌, ◌≤◌, ◌<◌, length, get_or, set, Float}
use Rattle.std.proofs.Common.{sym, ap, ◌∙◌}
use Rattle.std.specs.Float.{nan}
use Rattle.std.specs.Float.Ieee.{lt}
use Rattle.list_laws.specs.Write.{write}
use Rattle.list_laws.specs.Whole.{start-next}
use Rattle.list_laws.specs.Part.{region, length-region}
use Rattle.definition.specs.Floats.{◌⊕◌, ◌⊗◌, oneᶠ, avoid_underflow, clamp}
use Rattle.definition.specs.Vectors.{Message, entry, binary, normalize, avoid_underflow_all}
use Rattle.definition.specs.Settings.{Settings}
use Rattle.definition.specs.NoisyOr.{CpdRow, cpd_table}
use Rattle.definition.specs.Messages.{out_message_factor}
use Rattle.array_utils.specs.Columns.{column, column-at}
use Rattle.node.specs.Rows.{flat_rows, given, table_given}

-- a row of the table times the message
abbrev pub weighted : Float → Float → Float → Float → Float
weighted x y a p = a ⊗ x ⊕ p ⊗ y

unfoldable pub lowered : Float → Float
lowered x = cond (lt oneᶠ x) oneᶠ x

unfoldable pub from_table : List Float → Message → Message
from_table l m = map clamp (normalize (column (weighted (entry 0 m) (entry 1 m)) l))

-- ---- the table of a factor of degree d

rows-weighted : (m : Message) (rs : List CpdRow) → column (weighted (entry 0 m) (entry 1 m)) (flat_rows rs) ≡ map (λ (r : CpdRow). r.absent ⊗ entry 0 m ⊕ r.present ⊗ entry 1 m) rs
rows-weighted m [] = refl
rows-weighted m (r ∷ rs) = ap {B = List Float} (λ l. (r.absent ⊗ entry 0 m ⊕ r.present ⊗ entry 1 m) ∷ l) (rows-weighted m rs)

pub from_table-is : (s : Settings) (d : ℕ) (m : Message) → from_table (flat_rows (cpd_table s d)) m ≡ out_message_factor s d m
unfolding from_table out_message_factor
from_table-is s d m = ap (λ (l : List Float). map clamp (normalize l)) (rows-weighted m (cpd_table s d))

-- any settings with the same three send the same
pub factor-given : (s : Settings) (d : ℕ) (m : Message) → out_message_factor s d m ≡ out_message_factor (given s.alpha s.beta s.regularised) d m
unfolding out_message_factor
factor-given s d m = ap (λ (t : List CpdRow). map clamp (normalize (map (λ (r : CpdRow). r.absent ⊗ entry 0 m ⊕ r.present ⊗ entry 1 m) t))) (table_given s d)

-- ---- each entry between c and 1, in two passes

one_stays : avoid_underflow oneᶠ ≡ oneᶠ
unfolding avoid_underflow lt
one_stays = refl

clamp_in_two : (x : Float) → avoid_underflow (lowered x) ≡ clamp x
unfolding clamp lowered
clamp_in_two x = go (lt oneᶠ x)
  where
    go : (b : Bool) → avoid_underflow (cond b oneᶠ x) ≡ cond b oneᶠ (avoid_underflow x)
    go true = one_stays
    go false = refl

pub clamp-all : (l : List Float) → avoid_underflow_all (map lowered l) ≡ map clamp l
unfolding avoid_underflow_all
clamp-all [] = refl
clamp-all (x ∷ l) = ap (λ (y : Float). y ∷ map avoid_underflow (map lowered l)) (clamp_in_two x) ∙ ap {B = List Float} (λ r. clamp x ∷ r) (clamp-all l)

-- ---- a turn of the loop that weighs the rows
pub weigh_turn :
    (x y : Float) (cpd l w : List Float) (i : ℕ) →
    2 * i + 1 < length cpd → w ≡ write l 0 i (λ k. get_or (column (weighted x y) cpd) k nan) → set w i (weighted x y (get_or cpd (2 * i) nan) (get_or cpd (2 * i + 1) nan)) ≡ write l 0 (i + 1) (λ k. get_or (column (weighted x y) cpd) k nan)
weigh_turn x y cpd l w i h e =
    start-next l w (λ k. get_or (column (weighted x y) cpd) k nan) i _ e (sym (column-at (weighted x y) cpd i h))

pub from_steps :
    (cpd l n o r : List Float) (x y : Float) →
    l ≡ column (weighted x y) cpd → n ≡ normalize l → o ≡ map lowered n → r ≡ avoid_underflow_all o → r ≡ from_table cpd (binary x y)
unfolding from_table
from_steps cpd l n o r x y e f g h = h ∙ ap avoid_underflow_all g ∙ clamp-all n ∙ ap (map clamp) (f ∙ ap normalize e)

-- what is written into a part of a row has as many entries as the part
pub factor-part : (s : Settings) (m : Message) (w r : List Float) (from n k : ℕ) → from + n ≤ length w → n ≡ k → r ≡ out_message_factor s (length (region w from n)) m → r ≡ out_message_factor s k m
factor-part s m w r from n k h e p = p ∙ ap (λ (j : ℕ). out_message_factor s j m) (length-region w from n h ∙ e)
