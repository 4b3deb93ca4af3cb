-- The reader's base rate taken out of its evidence: the claims of `claims`, proved. The table with number 11 is `file-listing` of Facts.
use Rattle.claims.specs.BaseRate.{BaseAtTwo, BareWithoutBase, ExactEvidence, EvidenceTaken}
use Rattle.base_rate_laws.specs.Kinds as Kinds
use Rattle.base_rate_laws.specs.Evidence as Evidence

-- where a good file has its word of kind 7; and without one a file means what document 01 says
pub base-at-two : BaseAtTwo
base-at-two = Kinds.base-at-two

pub bare_without-base : BareWithoutBase
bare_without-base = Kinds.bare_without-base

-- with one nothing is rounded, and which evidence number 5 takes
pub exact-evidence : ExactEvidence
exact-evidence = Evidence.exact-evidence

pub evidence-taken : EvidenceTaken
evidence-taken = Evidence.evidence-taken
