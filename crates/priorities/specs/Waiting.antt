-- For callers: the queue by the definition's own list, which has of each direction the amount with which it waits, or none. The words hold its keys.
use Rattle.std.specs.Prelude.{◌≡◌, List, ℕ, get_or, set, Float}
use Rattle.std.proofs.Common.{ap, ◌∙◌, subst}
use Rattle.std.proofs.Math.Option.{Option, none}
use Rattle.priorities.specs.Leaves.{Full}
use Rattle.priorities.specs.Keys.{encode_key, encoded, IsAmount, encoded-set, encoded_amounts}
use Rattle.priorities.specs.Tournament.{tournament, Holds, Queue, holds_set}

-- what `set` ensures, where the key is that of an amount or of none
pub waiting_set :
    (w : ℕ) (q : List (Option Float)) (words changed : List ℕ) (d : ℕ) (o : Option Float) (key : ℕ) →
    Holds w (encoded q) words → key ≡ encode_key o → changed ≡ tournament w (set (encoded q) d key) → Holds w (encoded (set q d o)) changed
waiting_set w q words changed d o key H k e =
    subst (λ (l : List ℕ). Holds w l changed) (ap (set (encoded q) d) k ∙ encoded-set q d o) (holds_set w (encoded q) words changed d key H e)

module _ (q : List (Option Float)) (amounts : (i : ℕ) → IsAmount (get_or q i none)) where
  -- what `set` and `highest_priority` ask of the words
  pub waiting_queue : (w : ℕ) (words : List ℕ) → Full w → Holds w (encoded q) words → Queue w words
  waiting_queue w words f H = record { full = f; keys = encoded q; holds = H; amounts = encoded_amounts q amounts }
