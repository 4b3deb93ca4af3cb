-- `zero_lookahead::sweep::send_node` meets its contract.
use mathlib.Core.Path.{ap}
use Rattle.definition.specs.Settings.{Settings}
use Rattle.zero_lookahead.proofs.sweep.send_node.Goals as goal

pub returns-then-kind : goal.returns-then-kind
returns-then-kind c =
    λ s t r_in r_new r_log r_build pending rest N g. c.send_from_tree.ensures s t c.args.evidence.now r_in r_new r_log r_build pending rest N (ap (λ (u : Settings). u.tolerance) g)

pub returns-then-kind-2 : goal.returns-then-kind-2
returns-then-kind-2 c =
    λ s t r_in r_new r_log r_build pending rest N g. c.send_from_factor.ensures s t c.args.evidence.now r_in r_new r_log r_build pending rest N (ap (λ (u : Settings). u.alpha) g) (ap (λ (u : Settings). u.beta) g) (ap (λ (u : Settings). u.regularised) g)

pub returns : goal.returns
returns c = λ s t r_in r_new r_log r_build pending rest N g. c.send_from_variable.ensures s t r_in r_new r_log r_build pending rest N (ap (λ (u : Settings). u.prior) g)
