-- `call::calibrate` meets its contract.
use mathlib.Core.Path.{refl}
use lib.Ieee.{of_bits}
use Rattle.bale_answer.specs.Coded.{settings_are, same-call}
use Rattle.bale_answer.proofs.call.calibrate.Goals as goal

pub returns : goal.returns
unfolding of_bits
returns c =
    let a = c.args in
    let s = settings_are a.rates a.prior _ _ _ _
    c.alpha.ensures c.beta.ensures c.beta-2.ensures c.is_regularised.ensures in
    same-call _ _ a.grades _ a.evidence.now a.pairs.now _ _ s refl c.calibrate_all_subgraphs.ensures.ending_floats_after
