-- `bale_file::decoder::feed` meets its contract. The loop's invariant: feeding the bytes that are left gives what feeding all gives.
use Rattle.std.proofs.Common.{◌∙◌, drop_of_length-le}
use Rattle.bale_file.specs.Feeding.{fed-next}
use Rattle.bale_file.specs.Decoder.{fed}
use Rattle.bale_file.proofs.decoder.feed.Goals as goal

pub loop-byte-preserved : goal.loop-byte-preserved
loop-byte-preserved c = fed-next _ c.loop-byte.byte-index _ _ c.loop-byte-test.true c.feed_byte-d.ensures ∙ c.loop-byte.invariant

pub returns : goal.returns
unfolding fed
returns c =
    let e = drop_of_length-le c.args.bytes.now c.loop-byte-test.false in
    rw e at c.loop-byte.invariant
