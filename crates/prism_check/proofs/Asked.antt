-- The demands of a file, part by part.
use Rattle.std.specs.Prelude.{List, [], ◌++◌, map}
use Rattle.std.specs.List.{flat_map}
use Rattle.std.specs.Option.{option_map}
use Rattle.std.proofs.Common.{◌≡◌, sym, ap, ◌∙◌, append_assoc}
use Rattle.op_trees.specs.Tree.{tree}
use Rattle.std.proofs.lemmas.List.Folds.{flat_map-map}
use Rattle.basics.specs.Lists.{flat_map_of}
use Rattle.prism_tree.specs.declared.syntax.PrismFile.{PrismFile}
use Rattle.prism_tree.specs.declared.syntax.PrismConst.{PrismConst}
use Rattle.prism_tree.specs.declared.syntax.PrismVar.{PrismVar}
use Rattle.prism_tree.specs.declared.syntax.PrismLabel.{PrismLabel}
use Rattle.prism_tree.specs.declared.syntax.PrismRewards.{PrismRewards}
use Rattle.prism_tree.specs.declared.syntax.PrismCommand.{PrismCommand}
use Rattle.prism_tree.specs.Syntax.{const_of, var_of, label_of, rewards_of, command_of, file_of}
use Rattle.prism_check.specs.Demands.{Demand, const_demands, var_demands, label_demands, rewards_demands, init_demands, command_demands, outer_demands}
use Rattle.prism_check.proofs.Declared.{joined}

regrouped : (a b c d e : List Demand) → (a ++ (b ++ (c ++ d))) ++ e ≡ a ++ (b ++ (c ++ (d ++ e)))
regrouped a b c d e = simp append_assoc

pub outer_is : (f : PrismFile) (cs : List PrismConst) (xs : List PrismVar) (ls : List PrismLabel) (rs : List PrismRewards) (l0 l1 l2 l3 l4 l5 : List Demand) →
    cs ≡ f.constants → xs ≡ f.globals → ls ≡ f.labels → rs ≡ f.rewards → l0 ≡ [] → l1 ≡ l0 ++ flat_map (λ c. const_demands (const_of c)) cs →
    l2 ≡ l1 ++ flat_map (λ x. var_demands (var_of x)) xs → l3 ≡ l2 ++ flat_map (λ l. label_demands (label_of l)) ls →
    l4 ≡ l3 ++ flat_map (λ r. rewards_demands (rewards_of r)) rs → l5 ≡ l4 ++ init_demands (option_map tree f.init) → l5 ≡ outer_demands (file_of f)
outer_is f cs xs ls rs l0 l1 l2 l3 l4 l5 ec ex el er p0 p1 p2 p3 p4 p5 =
    p5
    ∙ ap (λ zs. zs ++ init_demands (option_map tree f.init))
    (joined (flat_map const_demands (map const_of f.constants)) (flat_map var_demands (map var_of f.globals)) (flat_map label_demands (map label_of f.labels))
    (flat_map rewards_demands (map rewards_of f.rewards)) l0 l1 l2 l3 l4 p0
    (p1 ∙ ap (λ zs. l0 ++ zs) (flat_map_of const_demands const_of cs f.constants ec))
    (p2 ∙ ap (λ zs. l1 ++ zs) (flat_map_of var_demands var_of xs f.globals ex))
    (p3 ∙ ap (λ zs. l2 ++ zs) (flat_map_of label_demands label_of ls f.labels el))
    (p4 ∙ ap (λ zs. l3 ++ zs) (flat_map_of rewards_demands rewards_of rs f.rewards er)))
    ∙ regrouped (flat_map const_demands (map const_of f.constants)) (flat_map var_demands (map var_of f.globals)) (flat_map label_demands (map label_of f.labels))
    (flat_map rewards_demands (map rewards_of f.rewards)) (init_demands (option_map tree f.init))

pub contents_are : (xs : List PrismVar) (cs : List PrismCommand) (l0 l1 l2 : List Demand) → l0 ≡ [] → l1 ≡ l0 ++ flat_map (λ x. var_demands (var_of x)) xs →
    l2 ≡ l1 ++ flat_map (λ c. command_demands (command_of c)) cs → l2 ≡ flat_map var_demands (map var_of xs) ++ flat_map command_demands (map command_of cs)
contents_are xs cs l0 l1 l2 p0 p1 p2 =
    p2 ∙ ap (λ zs. l1 ++ zs) (sym (flat_map-map command_demands command_of cs))
    ∙ ap (λ zs. zs ++ flat_map command_demands (map command_of cs)) (p1 ∙ ap (λ zs. zs ++ flat_map (λ x. var_demands (var_of x)) xs) p0 ∙ sym (flat_map-map var_demands var_of xs))
