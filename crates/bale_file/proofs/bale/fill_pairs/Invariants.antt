-- `bale_file::bale::fill_pairs` meets its contract. The loop's invariant: the words before this one are laid.
use Rattle.std.specs.Prelude.{◌≡◌, take}
use Rattle.definition.specs.BaleFile.{pair_of}
use Rattle.definition.specs.Call.{overwrite}
use Rattle.bale_file.specs.Laid.{in_twos}
use Rattle.bale_file.proofs.bale.fill_pairs.Given as goal

abbrev pub invariant-loop-i : goal.invariant-loop-i
invariant-loop-i l = l.pairs ≡ overwrite (in_twos (λ w. (pair_of w).grade) (λ w. (pair_of w).marker) (take l.i l.words)) l.initial.pairs
