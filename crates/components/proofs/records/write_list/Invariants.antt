-- `records::write_list` meets its contract: after j turns the first j slots are copied.
use Rattle.std.proofs.Common.{◌≡◌, ◌+◌, get_or}
use Rattle.list_laws.specs.Write.{write}
use Rattle.components.proofs.records.write_list.Given as goal

abbrev pub invariant-loop-j : goal.invariant-loop-j
invariant-loop-j l = l.words ≡ write l.initial.words l.to l.j (λ k. get_or l.initial.words (l.from + k) 0)
