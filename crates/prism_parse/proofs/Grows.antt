-- Where more expressions stand for E, a file spells no less.
use Rattle.std.proofs.Common.{ℕ, List, [], ◌∷◌}
use Rattle.std.specs.Prelude.{◌⊎◌, Option, Some, None}
use Rattle.std.proofs.Common.{inl, inr}
use Rattle.bridge_io.specs.declared.reason.Named.{Named}
use Rattle.prism_lex.specs.Tokens.{Lexeme}
use Rattle.prism_tree.specs.Syntax.{Expression, Range, File}
use Rattle.prism_tree.specs.Lang.{Lang, ◌>>=◌, ◌or◌, optional, many, folding}
use Rattle.prism_tree.specs.Grammar as grammar

-- What the one language spells, the other spells.
pub record Grows {A : Type 0} (L M : Lang A) : Type 0 where
  pub grows : (w : List Lexeme) (x : A) → L w x → M w x

pub self_grows : {A : Type 0} (L : Lang A) → Grows L L
self_grows L = record { grows = λ w x h. h }

pub then_grows : {A B : Type 0} {L M : Lang A} {P Q : A → Lang B} → Grows L M → ((x : A) → Grows (P x) (Q x)) → Grows (L >>= P) (M >>= Q)
unfolding ◌>>=◌
then_grows g h = record { grows = λ w y p. (p.0, p.1, p.2, p.3, g.grows p.1 p.0 p.4, (h p.0).grows p.2 y p.5) }

pub or_grows : {A : Type 0} {L M P Q : Lang A} → Grows L M → Grows P Q → Grows (L or P) (M or Q)
unfolding ◌or◌
or_grows {A} {L} {M} {P} {Q} g h = record { grows = λ w x p. go w x p }
  where
    go : (w : List Lexeme) (x : A) → L w x ⊎ P w x → M w x ⊎ Q w x
    go w x (inl a) = inl (g.grows w x a)
    go w x (inr b) = inr (h.grows w x b)

pub many_grows : {A : Type 0} {L M : Lang A} → Grows L M → Grows (many L) (many M)
unfolding many
many_grows {A} {L} {M} g = record { grows = λ w xs p. go xs w p }
  where
    go : (xs : List A) (w : List Lexeme) → many L w xs → many M w xs
    go [] w p = p
    go (x ∷ xs) w p = (p.0, p.1, p.2, g.grows p.0 x p.3, go xs p.1 p.4)

folding_grows : {S A : Type 0} {L M : Lang A} (f : S → A → S) (s : S) → Grows L M → Grows (folding f L s) (folding f M s)
unfolding folding
folding_grows f s g = then_grows (many_grows g) (λ xs. self_grows _)

pub optional_grows : {A : Type 0} {L M : Lang A} → Grows L M → Grows (optional L) (optional M)
optional_grows g = or_grows (self_grows _) (then_grows g (λ x. self_grows _))

-- the first part stays as it is
pub skip : {A B : Type 0} {P Q : A → Lang B} (L : Lang A) → ((x : A) → Grows (P x) (Q x)) → Grows (L >>= P) (L >>= Q)
skip L h = then_grows (self_grows _) h

module _ (E F : Lang Expression) (V : Lang (Option Range)) (g : Grows E F) where
  const_item_grows : Grows (grammar.const_item E V) (grammar.const_item F V)
  unfolding grammar.const_item grammar.const_type
  const_item_grows = skip _ (λ _. skip _ (λ _. skip _ (λ _. then_grows (optional_grows (skip _ (λ _. g))) (λ _. self_grows _))))

  range_grows : Grows (grammar.range E V) (grammar.range F V)
  unfolding grammar.range
  range_grows = skip _ (λ _. then_grows g (λ _. skip _ (λ _. then_grows g (λ _. self_grows _))))

  var_grows : Grows (grammar.var E V) (grammar.var F V)
  unfolding grammar.var
  var_grows = skip _ (λ _. skip _ (λ _. then_grows (or_grows (then_grows range_grows (λ _. self_grows _)) (self_grows _)) (λ _. then_grows (optional_grows (skip _ (λ _. g))) (λ _. self_grows _))))

  global_item_grows : Grows (grammar.global_item E V) (grammar.global_item F V)
  unfolding grammar.global_item
  global_item_grows = skip _ (λ _. var_grows)

  formula_item_grows : Grows (grammar.formula_item E V) (grammar.formula_item F V)
  unfolding grammar.formula_item
  formula_item_grows = skip _ (λ _. skip _ (λ _. skip _ (λ _. then_grows g (λ _. self_grows _))))

  label_item_grows : Grows (grammar.label_item E V) (grammar.label_item F V)
  unfolding grammar.label_item
  label_item_grows = skip _ (λ _. skip _ (λ _. skip _ (λ _. then_grows g (λ _. self_grows _))))

  write_grows : Grows (grammar.write E V) (grammar.write F V)
  unfolding grammar.write
  write_grows = skip _ (λ _. skip _ (λ _. skip _ (λ _. skip _ (λ _. then_grows g (λ _. self_grows _)))))

  update_grows : Grows (grammar.update E V) (grammar.update F V)
  unfolding grammar.update
  update_grows = or_grows (self_grows _) (then_grows write_grows (λ _. folding_grows _ _ (skip _ (λ _. write_grows))))

  weighted_grows : Grows (grammar.weighted E V) (grammar.weighted F V)
  unfolding grammar.weighted
  weighted_grows = then_grows g (λ _. skip _ (λ _. then_grows update_grows (λ _. self_grows _)))

  updates_grows : Grows (grammar.updates E V) (grammar.updates F V)
  unfolding grammar.updates
  updates_grows = or_grows (then_grows update_grows (λ _. self_grows _)) (then_grows weighted_grows (λ _. folding_grows _ _ (skip _ (λ _. weighted_grows))))

  command_grows : Grows (grammar.command E V) (grammar.command F V)
  unfolding grammar.command
  command_grows = skip _ (λ _. skip _ (λ _. skip _ (λ _. then_grows g (λ _. skip _ (λ _. then_grows updates_grows (λ _. self_grows _))))))

  reward_grows : Grows (grammar.reward E V) (grammar.reward F V)
  unfolding grammar.reward
  reward_grows = skip _ (λ _. then_grows g (λ _. skip _ (λ _. then_grows g (λ _. self_grows _))))

  rewards_item_grows : Grows (grammar.rewards_item E V) (grammar.rewards_item F V)
  unfolding grammar.rewards_item
  rewards_item_grows = skip _ (λ _. skip _ (λ _. then_grows (many_grows reward_grows) (λ _. self_grows _)))

  body_grows : (x : Named) → Grows (grammar.body E V x) (grammar.body F V x)
  unfolding grammar.body
  body_grows x = then_grows (many_grows var_grows) (λ _. then_grows (many_grows command_grows) (λ _. self_grows _))

  copy_grows : (x : Named) → Grows (grammar.copy E V x) (grammar.copy F V x)
  unfolding grammar.copy grammar.pair
  copy_grows x = self_grows _

  module_item_grows : Grows (grammar.module_item E V) (grammar.module_item F V)
  unfolding grammar.module_item
  module_item_grows = skip _ (λ _. skip _ (λ x. then_grows (or_grows (body_grows x) (copy_grows x)) (λ _. self_grows _)))

  section_grows : Grows (grammar.section E V) (grammar.section F V)
  unfolding grammar.section
  section_grows =
      or_grows (then_grows const_item_grows (λ _. self_grows _)) (or_grows (then_grows global_item_grows (λ _. self_grows _)) (or_grows (then_grows formula_item_grows (λ _. self_grows _))
      (or_grows (then_grows module_item_grows (λ _. self_grows _)) (or_grows (then_grows label_item_grows (λ _. self_grows _)) (then_grows rewards_item_grows (λ _. self_grows _))))))

  init_item_grows : Grows (grammar.init_item E V) (grammar.init_item F V)
  unfolding grammar.init_item
  init_item_grows = skip _ (λ _. then_grows g (λ _. self_grows _))

  init_if_grows : (o : Option Expression) → Grows (grammar.init_if E V o) (grammar.init_if F V o)
  init_if_grows None = init_item_grows
  init_if_grows (Some e) = self_grows _

  items_grows : (f : File) → Grows (grammar.items E V f) (grammar.items F V f)
  unfolding grammar.items
  items_grows f = then_grows (folding_grows _ _ section_grows) (λ h. or_grows (self_grows _) (then_grows (init_if_grows h.init) (λ _. folding_grows _ _ section_grows)))

  pub file_grows : (end : ℕ) → Grows (grammar.file_over E V end) (grammar.file_over F V end)
  unfolding grammar.file_over
  file_grows end = then_grows (items_grows _) (λ f. skip _ (λ _. items_grows f))
