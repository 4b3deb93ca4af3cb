-- `array_utils::power::powers` meets its contract: before turn i the powers below i stand, and `bit` is the highest of i.
use Rattle.std.proofs.Common.{◌≡◌, ◌+◌, ◌≤◌, ◌<◌}
use Rattle.list_laws.specs.Write.{write}
use Rattle.definition.specs.Floats.{powi}
use Rattle.array_utils.specs.PowerLaws.{BitSquare}
use Rattle.array_utils.proofs.power.powers.Given as goal

abbrev pub invariant-loop-i : goal.invariant-loop-i
invariant-loop-i l = record {
  power : BitSquare l.base l.bit l.square;
  least : l.bit ≤ l.i;
  most : l.i < l.bit + l.bit;
  stored : l.out ≡ write l.initial.out 0 l.i (powi l.base);
}
