-- `listing::fields::put_byte` meets its contract.
use Rattle.listing.specs.Writing.{written_byte}
use Rattle.listing.proofs.fields.put_byte.Goals as goal

pub returns : goal.returns
returns c = written_byte c.args.out.now c.args.at c.args.byte c.requires
