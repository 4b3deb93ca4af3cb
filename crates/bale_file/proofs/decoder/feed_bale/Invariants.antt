-- `bale_file::decoder::feed_bale` meets its contract. The loop's invariant: what is fed of the bytes that are left, counted from the first, is what is fed of all.
use Rattle.std.specs.Prelude.{◌≡◌, drop}
use Rattle.bale_file.specs.Decoder.{fed_of, behind, fed_bale}
use Rattle.bale_file.proofs.decoder.feed_bale.Given as goal

abbrev pub invariant-loop-i : goal.invariant-loop-i
invariant-loop-i l =
    behind l.i (fed_bale (drop l.i l.bytes) (fed_of l.d l.markers l.pairs)) ≡ fed_bale l.bytes (fed_of l.initial.d l.initial.markers l.initial.pairs)
