-- `messages::factor::out_message_factor` meets its contract.
use mathlib.Core.Path.{sym}
use native.Mathlib.Omega.{arith}
use lib.Seq.{length-take-le}
use Rattle.messages.proofs.factor.out_message_factor.Goals as goal

pub slice_bounds-out_message_factor_with-end : goal.slice_bounds-out_message_factor_with-end
slice_bounds-out_message_factor_with-end c = sym (length-take-le _ _ (omega arith))

pub out_message_factor_with-requires : goal.out_message_factor_with-requires
out_message_factor_with-requires c = let p = c.requires in (p, length-take-le _ _ (omega arith))

pub slice_bounds-out_message_factor_with-end-else-floats-le32 : goal.slice_bounds-out_message_factor_with-end-else-floats-le32
slice_bounds-out_message_factor_with-end-else-floats-le32 c = sym (length-take-le _ _ (omega arith))

pub out_message_factor_with-requires-else-floats-le32 : goal.out_message_factor_with-requires-else-floats-le32
out_message_factor_with-requires-else-floats-le32 c = let p = c.requires in (p, length-take-le _ _ (omega arith))

pub returns-then-floats-le32 : goal.returns-then-floats-le32
returns-then-floats-le32 c = c.out_message_factor_with.ensures.0

pub returns-else-floats-le32 : goal.returns-else-floats-le32
returns-else-floats-le32 c = c.out_message_factor_with-else-floats-le32.ensures.0
