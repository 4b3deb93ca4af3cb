-- `bale_file::word::is_clean` meets its contract.
use Prim.Native.Nat.{ℕ, ◌%◌, ◌^◌}
use mathlib.Core.Path.{ap, ◌∙◌}
use lib.Dec.{ltb}
use Rattle.definition.specs.BaleFile.{field_width}
use Rattle.bale_file.specs.Words.{clean_below}
use Rattle.bale_file.proofs.word.is_clean.Goals as goal

pub returns : goal.returns
returns c = let w = c.args.word in
    ap (λ (n : ℕ). ltb (w % 536870912) n) (c.field_limit.ensures ∙ ap (λ (k : ℕ). 2 ^ field_width k) c.kind_of-kind.ensures) ∙ clean_below w
