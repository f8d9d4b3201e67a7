-- Where more expressions and operands stand for E and B, a properties file spells no less.
use Rattle.std.specs.Prelude.{Option, Some, None}
use Rattle.bridge_io.specs.declared.reason.Named.{Named}
use Rattle.prism_tree.specs.Syntax.{Expression}
use Rattle.prism_tree.specs.Lang.{Lang}
use Rattle.prism_parse.proofs.Grows.{Grows, self_grows, then_grows, or_grows, many_grows, skip}
use Rattle.prop_grammar.specs.Grammar as grammar

module _ (E F B C : Lang Expression) (g : Grows E F) (h : Grows B C) where
  bound_grows : Grows (grammar.bound E B) (grammar.bound F C)
  unfolding grammar.bound
  bound_grows = or_grows h (self_grows _)

  unopened_grows : Grows (grammar.unopened E) (grammar.unopened F)
  unfolding grammar.unopened
  unopened_grows = record { grows = λ w x p. (g.grows w x p.0, p.1) }

  within_grows : Grows (grammar.within E B) (grammar.within F C)
  unfolding grammar.within grammar.plain_within grammar.named_within
  within_grows = or_grows (then_grows h (λ _. then_grows g (λ _. self_grows _))) (skip _ (λ _. then_grows unopened_grows (λ _. self_grows _)))

  target_grows : Grows (grammar.target E B) (grammar.target F C)
  unfolding grammar.target grammar.near_target grammar.any_target
  target_grows = or_grows (skip _ (λ _. then_grows within_grows (λ _. self_grows _))) (then_grows g (λ _. self_grows _))

  probability_grows : Grows (grammar.probability E B) (grammar.probability F C)
  unfolding grammar.probability grammar.highest grammar.lower_probability grammar.lowest grammar.compared_probability
  probability_grows = or_grows (self_grows _) (or_grows (self_grows _) (skip _ (λ _. skip _ (λ _. then_grows bound_grows (λ _. self_grows _)))))

  reward_grows : Grows (grammar.reward E B) (grammar.reward F C)
  unfolding grammar.reward grammar.highest_reward grammar.lower_reward grammar.lowest_reward grammar.named_reward grammar.of_structure grammar.most_of grammar.least_of
  reward_grows = self_grows _

  always_grows : Grows (grammar.always E B) (grammar.always F C)
  unfolding grammar.always
  always_grows = skip _ (λ _. then_grows g (λ _. self_grows _))

  eventually_grows : Grows (grammar.eventually E B) (grammar.eventually F C)
  unfolding grammar.eventually
  eventually_grows = skip _ (λ _. then_grows target_grows (λ _. self_grows _))

  after_grows : (a : Expression) → Grows (grammar.after E B a) (grammar.after F C a)
  unfolding grammar.after grammar.strong_after grammar.weak_after
  after_grows a = or_grows (skip _ (λ _. then_grows target_grows (λ _. self_grows _))) (skip _ (λ _. then_grows g (λ _. self_grows _)))

  path_grows : Grows (grammar.path E B) (grammar.path F C)
  unfolding grammar.path
  path_grows = or_grows eventually_grows (or_grows always_grows (then_grows g after_grows))

  reach_grows : Grows (grammar.reach E B) (grammar.reach F C)
  unfolding grammar.reach
  reach_grows = skip _ (λ _. then_grows g (λ _. self_grows _))

  query_grows : (n : Option Named) → Grows (grammar.query E B n) (grammar.query F C n)
  unfolding grammar.query grammar.probability_query grammar.reward_query
  query_grows n =
      or_grows (then_grows probability_grows (λ _. skip _ (λ _. then_grows path_grows (λ _. self_grows _))))
      (then_grows reward_grows (λ _. skip _ (λ _. then_grows reach_grows (λ _. self_grows _))))

  property_grows : Grows (grammar.property E B) (grammar.property F C)
  unfolding grammar.property grammar.titled grammar.titled_query
  property_grows = then_grows (or_grows (query_grows None) (skip _ (λ x. skip _ (λ _. query_grows (Some x))))) (λ _. self_grows _)

  pub properties_grows : Grows (grammar.properties E B) (grammar.properties F C)
  unfolding grammar.properties
  properties_grows = many_grows property_grows
