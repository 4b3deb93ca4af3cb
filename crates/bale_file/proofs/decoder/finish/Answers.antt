-- `bale_file::decoder::finish` meets its contract.
use Rattle.std.proofs.Common.{inl, inr, ne_eqb}
use Rattle.bale_file.specs.Decoder.{end_of, finished}
use Rattle.bale_file.proofs.decoder.finish.Goals as goal

pub returns-then-reading : goal.returns-then-reading
unfolding end_of finished
returns-then-reading c =
    elim c.then-reading.either [
      | inl bad ↦ rw bad
      | inr (inl (good, kind)) ↦ simp (good, ne_eqb _ _ kind)
      | inr (inr (good, kind, filled)) ↦ simp (good, kind, ne_eqb _ _ filled)
    ]

pub returns : goal.returns
unfolding end_of finished
returns c = simp (c.if-reading.false, c.if-reading-ne6.false, c.if-decoder-ne0.false)
