use Rattle.model_carrying.proofs.Together.{together_in_jani, together_in_prism, given_correspond, given_correspond_back}
use Rattle.model_carrying.proofs.laws.together_law.Goals as goal

pub returns : goal.returns
returns c = record {
  jani = together_in_jani c.described_law.ensures c.one_for_one_law.ensures.types c.one_for_one_law.ensures.values;
  prism = together_in_prism;
  given = given_correspond;
  back = given_correspond_back;
}
