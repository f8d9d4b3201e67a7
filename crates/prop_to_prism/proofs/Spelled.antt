-- The new names of a model are identifiers, and stand without quotes.
use Rattle.std.specs.Prelude.{◌≡◌, ◌<◌, ℕ, List, [], ◌∷◌, map, length, Bool, true, false, nat_eq}
use Rattle.std.proofs.Common.{refl, ap, sym, subst, ◌∙◌, arith}
use Rattle.std.proofs.lemmas.Bool.Decides.{nat_tests}
use Rattle.process_core.specs.Ready.{Name}
use Rattle.prism_lex.specs.declared.token.TokenKind.TheVariants.{Ident}
use Rattle.prism_lex.specs.Tokens.{IsKind, is_name}
use Rattle.std.specs.List.{AllByRecursion as Each}
use Rattle.jani_tree.specs.Syntax.{File}
use Rattle.jani_meaning.specs.Elements.{lasting, labels, structures}
use Rattle.name_table.specs.PrismAsks.{name_at}
use Rattle.name_table.specs.Entries.{Ask}
use Rattle.name_table.proofs.EntryLemmas.{first_alone}
use Rattle.prism_translation_laws.specs.Targets.{targets}
use Rattle.prism_translation_laws.specs.Names.{action_ask}
use Rattle.prism_translation_laws.proofs.Entries.{IsValidName}
use Rattle.prism_translation_laws.proofs.Segments.{constants_part, variables_part, labels_part, rewards_part, constant_spelled, variable_spelled, labels_spelled}
use Rattle.prop_grammar.specs.Grammar.{has_quotes}
use Rattle.prop_to_prism.specs.ToPrism.{new_names}
use Rattle.prop_to_prism.proofs.Entries.{constants_same, variables_same, labels_same, rewards_same}

-- an identifier has no quotes
pub no_quotes : (x : Name) → is_name x ≡ true → has_quotes x ≡ false
no_quotes [] h = absurd cc
no_quotes (b ∷ bs) h = by_test (nat_eq b 34) refl
  where
    by_test : (t : Bool) → nat_eq b 34 ≡ t → nat_eq b 34 ≡ false
    by_test false e = e
    by_test true e =
        let same : b ≡ 34 = grind (arith, nat_tests, e) in
        let no : false ≡ true = subst (λ z. is_name (z ∷ bs) ≡ true) same h in
        absurd cc

-- ---- the entries are those of the translation, which asks for its actions behind them
module _ (file : File) where
  abbrev made : List Ask
  made = map action_ask (targets file)

  pub constants_long : length (new_names file).constants ≡ length file.constants
  constants_long = sym (ap length (constants_same file first_alone made)) ∙ (constants_part file).long

  pub variables_long : length (new_names file).variables ≡ length (lasting file)
  variables_long = sym (ap length (variables_same file first_alone made)) ∙ (variables_part file).long

  pub labels_long : length (new_names file).labels ≡ length (labels file)
  labels_long = sym (ap length (labels_same file first_alone made)) ∙ (labels_part file).long

  pub rewards_long : length (new_names file).rewards ≡ length (structures file)
  rewards_long = sym (ap length (rewards_same file first_alone made)) ∙ (rewards_part file).long

  pub constant_is : (i : ℕ) → i < length file.constants → IsKind (name_at (new_names file).constants i) Ident
  constant_is i l = subst (λ es. IsKind (name_at es i) Ident) (constants_same file first_alone made) (constant_spelled file i l)

  pub variable_is : (i : ℕ) → i < length (lasting file) → IsKind (name_at (new_names file).variables i) Ident
  variable_is i l = subst (λ es. IsKind (name_at es i) Ident) (variables_same file first_alone made) (variable_spelled file i l)

  pub labels_are : Each IsValidName (new_names file).labels
  labels_are = subst (λ es. Each IsValidName es) (labels_same file first_alone made) (labels_spelled file)
