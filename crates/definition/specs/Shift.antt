-- What the program `shift` prints for its input: bale files that follow one another (document 02, S-12). The Rust has nothing of it.
use Rattle.std.specs.Prelude.{ℕ, cond, List, [], ◌∷◌, ◌++◌, map, eqb}
use Rattle.definition.specs.Lists.{concat}
use Rattle.definition.specs.BaleFile.{word_of, word_kind}
use Rattle.definition.specs.Listing.{listing}

-- a word that ends no bale belongs to the first of those behind it
unfoldable pub on_first : List ℕ → List (List ℕ) → List (List ℕ)
on_first w [] = w ∷ []
on_first w (p ∷ ps) = (w ++ p) ∷ ps

-- The bales, each up to its end word: any whole word of kind 6, whatever its other bits. What is left behind the last, if any byte, is one bale more.
unfoldable pub bales : List ℕ → List (List ℕ)
bales [] = []
bales (a ∷ []) = (a ∷ []) ∷ []
bales (a ∷ b ∷ []) = (a ∷ b ∷ []) ∷ []
bales (a ∷ b ∷ d ∷ []) = (a ∷ b ∷ d ∷ []) ∷ []
bales (a ∷ b ∷ d ∷ e ∷ l) =
    let w = a ∷ b ∷ d ∷ e ∷ [] in
    let r = bales l in
    cond (eqb (word_kind (word_of a b d e)) 6) (w ∷ r) (on_first w r)

-- each listed as if it were run singly, one after the other
unfoldable pub shift_listing : List ℕ → List ℕ
shift_listing bs = concat (map listing (bales bs))
