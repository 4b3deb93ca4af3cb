-- `bale_file::decoder::ends_bale` meets its contract.
use Prim.Native.Nat.{ℕ}
use mathlib.Core.Path.{ap, ◌∙◌}
use borrow.Author.Tests.{lt-leb, le-leb}
use lib.Dec.{eqb}
use Rattle.definition.specs.BaleFile.{word_kind}
use Rattle.bale_file.specs.Decoder.{ends_bale}
use Rattle.bale_file.proofs.decoder.ends_bale.Goals as goal

pub returns-then-decoder-lt3 : goal.returns-then-decoder-lt3
unfolding ends_bale
returns-then-decoder-lt3 c = rw (lt-leb 3 _ c.if-decoder-lt3.true)

pub returns : goal.returns
unfolding ends_bale
returns c =
    rw (le-leb 3 _ c.if-decoder-lt3.false) (ap (λ (k : ℕ). eqb k 6) (c.kind_of.ensures ∙ ap word_kind c.word_of-word.ensures))
