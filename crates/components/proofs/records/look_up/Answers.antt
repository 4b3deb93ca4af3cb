-- `records::look_up` meets its contract: after i turns the first i numbers are looked up.
use Rattle.std.proofs.Common.{refl, arith}
use Rattle.list_laws.specs.Write.{write-none}
use Rattle.components.specs.ComponentRecord.{looked_below, looked_next}
use Rattle.components.proofs.records.look_up.Goals as goal

pub loop-i-init : goal.loop-i-init
loop-i-init c = write-none _ _ _

pub bounds-words-table : goal.bounds-words-table
bounds-words-table c =
    let a = c.args in
    let s = c.loop-i in
    omega (arith, looked_below a.words.now s.words a.table a.from a.to a.n s.i _ c.requires.from_le_to.1 c.requires.by_index (omega arith) s.invariant refl)

pub loop-i-preserved : goal.loop-i-preserved
loop-i-preserved c =
    let a = c.args in
    let s = c.loop-i in
    looked_next a.words.now s.words a.table a.from a.to a.n s.i _ c.requires.from_le_to.1 c.requires.by_index (omega arith) s.invariant refl
