-- `bale_file::bale::fill_evidence` meets its contract. The loop's invariant: the words before this one are laid.
use Rattle.std.specs.Prelude.{◌≡◌, take}
use Rattle.definition.specs.BaleFile.{evidence_of}
use Rattle.definition.specs.Call.{overwrite}
use Rattle.bale_file.specs.Base.{rate_of}
use Rattle.bale_file.specs.Laid.{in_twos}
use Rattle.bale_file.proofs.bale.fill_evidence.Given as goal

abbrev pub invariant-loop-i : goal.invariant-loop-i
invariant-loop-i l =
    let e = evidence_of (rate_of l.base) in
    l.evidence ≡ overwrite (in_twos (λ w. (e w).absent) (λ w. (e w).present) (take l.i l.words)) l.initial.evidence
