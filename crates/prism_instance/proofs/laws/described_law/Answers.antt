use Rattle.prism_instance.proofs.DescribedLaws.{described_alike}
use Rattle.prism_instance.proofs.laws.described_law.Goals as goal

pub returns : goal.returns
returns c = described_alike c.meaning_law.ensures.scenes c.meaning_law.ensures.moments
