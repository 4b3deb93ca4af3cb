-- `array_utils::message::column_products` meets its contract: after i turns the products are those of the first i pairs.
use Rattle.std.proofs.Common.{◌≡◌, take}
use Rattle.definition.specs.Vectors.{product_of}
use Rattle.array_utils.specs.Columns.{absents, presents}
use Rattle.array_utils.proofs.message.column_products.Given as goal

abbrev pub invariant-loop-i : goal.invariant-loop-i
invariant-loop-i l = (l.absent ≡ product_of (take l.i (absents l.rows))) × (l.present ≡ product_of (take l.i (presents l.rows)))
