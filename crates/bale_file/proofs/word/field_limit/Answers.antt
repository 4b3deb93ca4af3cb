-- `bale_file::word::field_limit` meets its contract. Each test decides the kind.
use Rattle.definition.specs.BaleFile.{field_width}
use Rattle.bale_file.specs.Words.{width-none}
use Rattle.bale_file.proofs.word.field_limit.Goals as goal

pub returns-then-kind-eq1 : goal.returns-then-kind-eq1
unfolding field_width
returns-then-kind-eq1 c = rw c.if-kind-eq1.true

pub returns-then-kind-eq2 : goal.returns-then-kind-eq2
unfolding field_width
returns-then-kind-eq2 c = rw c.if-kind-eq2.true

pub returns-then-kind-eq3 : goal.returns-then-kind-eq3
unfolding field_width
returns-then-kind-eq3 c = rw c.if-kind-eq3.true

pub returns-then-kind-eq4 : goal.returns-then-kind-eq4
unfolding field_width
returns-then-kind-eq4 c = rw c.if-kind-eq4.true

pub returns-then-kind-eq5 : goal.returns-then-kind-eq5
unfolding field_width
returns-then-kind-eq5 c = rw c.if-kind-eq5.true

pub returns-then-kind-eq7 : goal.returns-then-kind-eq7
unfolding field_width
returns-then-kind-eq7 c = rw c.if-kind-eq7.true

pub returns : goal.returns
returns c =
    rw
    (width-none _ c.if-kind-eq1.false c.if-kind-eq2.false c.if-kind-eq3.false
    c.if-kind-eq4.false c.if-kind-eq5.false c.if-kind-eq7.false)
