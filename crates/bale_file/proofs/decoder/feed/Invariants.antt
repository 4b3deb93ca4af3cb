-- `bale_file::decoder::feed` meets its contract. The loop's invariant: feeding the bytes that are left gives what feeding all gives.
use Rattle.std.specs.Prelude.{◌≡◌, drop}
use Rattle.bale_file.specs.Decoder.{fed_of, fed}
use Rattle.bale_file.proofs.decoder.feed.Given as goal

abbrev pub invariant-loop-byte : goal.invariant-loop-byte
invariant-loop-byte l =
    fed (drop l.byte-index l.bytes) (fed_of l.d l.markers l.pairs) ≡ fed l.bytes (fed_of l.initial.d l.initial.markers l.initial.pairs)
