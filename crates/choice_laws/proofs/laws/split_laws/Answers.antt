use Rattle.choice_laws.proofs.Products.{only_kept, ways_parted}
use Rattle.choice_laws.proofs.Members.{parted_once}
use Rattle.choice_laws.proofs.laws.split_laws.Goals as goal

pub returns : goal.returns
returns g c = record { parted = λ ts. ways_parted ts; once = parted_once; kept = only_kept }
