-- `messages::factor::weigh_rows` meets its contract: after i turns the first i entries are written.
use Rattle.std.proofs.Common.{◌≡◌, ◌+◌, ◌*◌, ◌<◌, length, refl, arith}
use Rattle.std.specs.Float.{nan}
use Rattle.list_laws.specs.Write.{write-none}
use Rattle.list_laws.specs.Whole.{whole-written}
use Rattle.array_utils.specs.Columns.{column, length-column}
use Rattle.messages.specs.Factor.{weighted, weigh_turn}
use Rattle.messages.proofs.factor.weigh_rows.Goals as goal

pub loop-i-init : goal.loop-i-init
loop-i-init c = write-none _ 0 _

pub loop-i-preserved : goal.loop-i-preserved
loop-i-preserved c =
    let s = c.loop-i in
    let a = c.args in
    let h : 2 * s.i + 1 < length a.cpd.now = omega (arith, c.requires) in
    weigh_turn a.message.absent a.message.present a.cpd.now a.out.now s.out s.i h s.invariant

pub returns : goal.returns
returns c =
    let s = c.loop-i in
    let a = c.args in
    let f = weighted a.message.absent a.message.present in
    let e : s.i ≡ length a.out.now = omega arith in
    let n : length (column f a.cpd.now) ≡ length a.out.now = omega (arith, length-column f a.cpd.now, c.requires) in
    whole-written nan a.out.now s.out (column f a.cpd.now) s.i (length a.out.now) s.invariant e refl n
