-- The text of translated properties, written as they are translated.
use Rattle.std.proofs.Common.{◌≡◌, ◌∙◌, refl, sym, ap, ap₂, ℕ, zero, suc, List, [], ◌∷◌, ◌++◌, Bool, true, false, Some, if◌then◌else◌}
use Rattle.op_trees.specs.Tree.{renamed, Truth, Number, Name as At, One, Two, Three}
use Rattle.prism_tree.specs.declared.operator.PrismOp.TheVariants as P
use Rattle.prism_tree.specs.Syntax as prism
use Rattle.frac_core.specs.declared.decimal.Decimal.{Decimal}
use Rattle.jani_tree.specs.Syntax.{Expression, File}
use Rattle.jani_images.specs.Image.{image, literal, unsigned, prism_op}
use Rattle.jani_images.proofs.Mapped.{same_image}
use Rattle.name_table.specs.declared.entry.Entry.{Entry}
use Rattle.name_table.specs.PrismAsks.{name_at}
use Rattle.prop_grammar.specs.Property.{Ask, greatest, least, bounded, greatest_reward, least_reward, Path, finally, globally, until, weak_until, finally_within, until_within}
use Rattle.prop_trees.specs.Trees.{Name, JaniProperty, ask_with, path_with}
use Rattle.prop_trees.specs.Text.{plain_name, plain, structure_name, line, ask_text, path_text, properties_text}
use Rattle.prop_to_prism.specs.ToPrism.{new_names, new_property_name, translated_expression, with_entries}
use Rattle.prop_to_prism.specs.Code.{names_of, all_written, written_property, plain_new}

-- ---- new names one after another
module _ (f g : Name → Name) where
  renamed_literal : (at : ℕ) (d : Decimal) → renamed f (literal at d) ≡ literal at d
  renamed_literal at d = by_sign d.negative
    where
      by_sign : (b : Bool) → renamed f (if b then One at P.Neg (Number at (unsigned d)) else Number at d) ≡ (if b then One at P.Neg (Number at (unsigned d)) else Number at d)
      by_sign true = refl
      by_sign false = refl

  pub renamed_image : (e : Expression) → renamed f (image g e) ≡ image (λ x. f (g x)) e
  renamed_image (Truth at b) = refl
  renamed_image (Number at d) = renamed_literal at d
  renamed_image (At at x) = refl
  renamed_image (One at o a) = ap (One at (prism_op o)) (renamed_image a)
  renamed_image (Two at o a b) = ap₂ (Two at (prism_op o)) (renamed_image a) (renamed_image b)
  renamed_image (Three at o a b c) =
      ap₂ {B = prism.Expression → prism.Expression} (λ x g. g x) (renamed_image a) (ap₂ (λ y z x. Three at (prism_op o) x y z) (renamed_image b) (renamed_image c))

-- ---- part by part
module _ {E F G : Type 0} (f : F → G) (g : E → F) (h : E → G) (same : (e : E) → f (g e) ≡ h e) where
  ask_then : {R : Type 0} (a : Ask E R) → ask_with f (λ i. i) (ask_with g (λ i. i) a) ≡ ask_with h (λ i. i) a
  ask_then greatest = refl
  ask_then least = refl
  ask_then (bounded c e) = ap (bounded c) (same e)
  ask_then (greatest_reward r) = refl
  ask_then (least_reward r) = refl

  path_then : (p : Path E) → path_with f (path_with g p) ≡ path_with h p
  path_then (finally e) = ap finally (same e)
  path_then (globally e) = ap globally (same e)
  path_then (until a b) = ap₂ until (same a) (same b)
  path_then (weak_until a b) = ap₂ weak_until (same a) (same b)
  path_then (finally_within k e) = ap₂ finally_within (same k) (same e)
  path_then (until_within k a b) = ap₂ {B = G → Path G} (λ x u. u x) (same k) (ap₂ (λ y z x. until_within x y z) (same a) (same b))

-- ---- a file's properties
module _ (file : File) (new : Name → Name) (names_same : (x : Name) → plain_new file (new_names file) x ≡ new x) (rewards : List Name) where
  plain_image : (e : Expression) → plain (translated_expression file e) ≡ image new e
  plain_image e = renamed_image plain_name (new_property_name file (new_names file)) e ∙ same_image (plain_new file (new_names file)) new names_same e

  one_written : (p : JaniProperty) (e : Entry) →
      line (Some e.name) (ask_text rewards (ask_with plain (λ i. i) (ask_with (translated_expression file) (λ i. i) p.ask))) (path_text (path_with plain (path_with (translated_expression file) p.path)))
      ≡ written_property new rewards e.name p
  one_written p e =
      ap₂ (λ a q. line (Some e.name) (ask_text rewards a) (path_text q)) (ask_then plain (translated_expression file) (image new) plain_image p.ask)
      (path_then plain (translated_expression file) (image new) plain_image p.path)

  pub as_translated : (ps : List JaniProperty) (es : List Entry) → all_written new rewards ps es ≡ properties_text rewards (with_entries file ps es)
  as_translated [] es = refl
  as_translated (p ∷ ps) [] = refl
  as_translated (p ∷ ps) (e ∷ es) = ap₂ (λ x xs. x ++ xs) (sym (one_written p e)) (as_translated ps es)

-- ---- the name of a reward structure, by the entries of all
pub name_numbered : (es : List Entry) (i : ℕ) → name_at es i ≡ structure_name (names_of es) i
name_numbered [] i = refl
name_numbered (e ∷ es) zero = refl
name_numbered (e ∷ es) (suc i) = name_numbered es i
