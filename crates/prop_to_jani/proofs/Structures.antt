-- The reward structures of the JANI file are those of the model, by their names; each has its number. What names stand for in a file does not
-- depend on places.
use Rattle.std.proofs.Common.{◌≡◌, ℕ, zero, suc, ◌<◌, refl, sym, ap, ap₂, ◌∙◌, arith, List, [], ◌∷◌, ◌++◌, map, length, filter, find, position, get_or, cond, Some, Bool, false}
use Rattle.std.specs.Prelude.{bytes_eq}
use Rattle.std.specs.List.{AllByRecursion as Each, IsDistinct, zip}
use Rattle.std.specs.Option.{option_map, option_or}
use Rattle.std.proofs.Math.Path.{fun_ext}
use Rattle.basics.specs.Mapped.{found_mapped, kept_mapped, mapped, some_mapped}
use Rattle.basics.specs.Members.{position_cons}
use Rattle.basics.specs.Texts.{bytes_eq-self}
use Rattle.prism_tree.specs.Syntax as prism
use Rattle.prism_flat.specs.Scene.{has_condition}
use Rattle.jani_tree.specs.Syntax.{Var, File}
use Rattle.jani_tree.specs.Places.{bare_const, bare_var, bare_file}
use Rattle.jani_check.proofs.Bare.{var_thing-bare}
use Rattle.jani_check.specs.declared.things.Thing.{Thing}
use Rattle.jani_check.specs.declared.things.Thing.TheVariants as H
use Rattle.jani_check.specs.Things.{is_called, is_reward, const_thing, var_thing, global_thing}
use Rattle.name_table.specs.declared.entry.Entry.{Entry}
use Rattle.name_table.specs.Asks.{new_names, variables}
use Rattle.jani_translation.specs.Parts.{label, structure, variable}
use Rattle.jani_translation.specs.Translated.{translated}
use Rattle.jani_translation.proofs.Each.{map-zip-right, for_rewards}
use Rattle.jani_translation_laws.proofs.Alike.{structure_name}
use Rattle.prop_trees.specs.Trees.{Name}
use Rattle.jani_props.specs.Faults.{structures, structures_among}
use Rattle.jani_props.proofs.Numbering.{is_structure, among_reward, among_other}
use Rattle.prop_to_jani.specs.ToJani.{reward_names}

-- ---- structures of the translated file

none_of : {X : Type 0} (made : X → Entry → Var) → ((x : X) (e : Entry) → is_structure (made x e) ≡ false) → (ps : List (X × Entry)) (rest : List Var) →
    structures_among (map (λ p. made p.0 p.1) ps ++ rest) ≡ structures_among rest
none_of made h [] rest = refl
none_of made h (p ∷ ps) rest = among_other (made p.0 p.1) (map (λ p. made p.0 p.1) ps ++ rest) (h p.0 p.1) ∙ none_of made h ps rest

all_of : (ps : List (prism.Rewards × Entry)) → structures_among (map (λ p. structure p.0 p.1) ps) ≡ map (λ v. v.name.name) (map (λ p. structure p.0 p.1) ps)
all_of [] = refl
all_of (p ∷ ps) = among_reward (structure p.0 p.1) (map (λ p. structure p.0 p.1) ps) refl ∙ ap (λ xs. (structure p.0 p.1).name.name ∷ xs) (all_of ps)

pub structures_named : (file : prism.File) → structures (translated file) ≡ reward_names file
structures_named file =
    let n = new_names file in
    let rs = map (λ p. structure p.0 p.1) (zip file.rewards n.rewards) in
    none_of (variable n.value (has_condition file)) (λ x e. refl) (zip (variables file) n.variables) (map (λ p. label p.0 p.1) (zip file.labels n.labels) ++ rs)
    ∙ none_of label (λ x e. refl) (zip file.labels n.labels) rs
    ∙ all_of (zip file.rewards n.rewards)
    ∙ map-zip-right (λ v. v.name.name) structure (λ e. e.name) structure_name file.rewards n.rewards (for_rewards file)

-- ---- places

structures-bare : (file : File) → structures (bare_file file) ≡ structures file
structures-bare file =
    ap (map (λ v. v.name.name)) (kept_mapped bare_var is_structure is_structure (λ v. ap (λ t. is_reward_thing t) (var_thing-bare v)) file.variables)
    ∙ mapped bare_var (λ v. v.name.name) (λ v. v.name.name) (λ v. refl) (filter is_structure file.variables)
  where
    is_reward_thing : Thing → Bool
    is_reward_thing t = is_reward (Some t)

things-bare : (file : File) (x : Name) → global_thing (bare_file file) x ≡ global_thing file x
things-bare file x =
    ap₂ option_or
    (ap (option_map const_thing) (found_mapped bare_const (λ c. is_called x c.name) (λ c. is_called x c.name) (λ c. refl) file.constants)
    ∙ some_mapped bare_const const_thing const_thing (λ c. refl) (find (λ c. is_called x c.name) file.constants))
    (ap (option_map var_thing) (found_mapped bare_var (λ v. is_called x v.name) (λ v. is_called x v.name) (λ v. refl) file.variables)
    ∙ some_mapped bare_var var_thing var_thing var_thing-bare (find (λ v. is_called x v.name) file.variables))

pub same_structures : (f g : File) → bare_file f ≡ bare_file g → structures f ≡ structures g
same_structures f g e = sym (structures-bare f) ∙ ap structures e ∙ structures-bare g

pub same_things : (f g : File) → bare_file f ≡ bare_file g → global_thing f ≡ global_thing g
same_things f g e = fun_ext (λ x. sym (things-bare f x) ∙ ap (λ h. global_thing h x) e ∙ things-bare g x)

-- ---- numbers

other_at : (x : Name) (xs : List Name) (r : ℕ) → Each (λ y. bytes_eq x y ≡ false) xs → r < length xs → bytes_eq x (get_or xs r []) ≡ false
other_at x [] r d l = absurd (omega (arith, l))
other_at x (y ∷ ys) zero d l = d.0
other_at x (y ∷ ys) (suc r) d l = other_at x ys r d.1 (omega (arith, l))

-- of names that differ each stands at its own number
pub number_of : (xs : List Name) (r : ℕ) → IsDistinct bytes_eq xs → r < length xs → position (λ y. bytes_eq y (get_or xs r [])) xs ≡ Some r
unfolding IsDistinct
number_of [] r d l = absurd (omega (arith, l))
number_of (x ∷ xs) zero d l =
    position_cons (λ y. bytes_eq y x) x xs ∙ ap (λ b. cond b (Some 0) (option_map suc (position (λ y. bytes_eq y x) xs))) (bytes_eq-self x)
number_of (x ∷ xs) (suc r) d l =
    let at : Name = get_or xs r [] in
    position_cons (λ y. bytes_eq y at) x xs
    ∙ ap (λ b. cond b (Some 0) (option_map suc (position (λ y. bytes_eq y at) xs))) (other_at x xs r d.0 (omega (arith, l)))
    ∙ ap (option_map suc) (number_of xs r d.1 (omega (arith, l)))
