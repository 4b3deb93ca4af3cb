-- `array_utils::table::LogTable::ln` meets its contract.
use mathlib.Core.Path.{◌≡◌, sym, ◌∙◌}
use Prim.Native.Nat.{ℕ}
use Rattle.message_bounds.specs.Ln.{ln_parts}
use Rattle.array_utils.specs.LnLaws.{ln-by-parts}
use Rattle.array_utils.proofs.table.LogTable.ln.Goals as goal

by_parts : (e i f e' i' f' : ℕ) → e ≡ e' → i ≡ i' → f ≡ f' → ln_parts e i f ≡ ln_parts e' i' f'
by_parts e i f e' i' f' p q r = rw (p, q, r)

pub returns : goal.returns
returns c =
    let o = c.new.ensures in
    c.ln_from_table.ensures ∙ by_parts _ _ _ _ _ _ o.0 o.1 o.2 ∙ sym (ln-by-parts c.args.x)
