use Rattle.std.proofs.Common.{◌≡◌, ℕ, List, ap, ap₂, sym, ◌∙◌, map, length, drop, ◌++◌}
use Rattle.std.proofs.lemmas.List.{length-map}
use Rattle.prism_tree.specs.declared.syntax.PrismConst.{PrismConst}
use Rattle.prism_tree.specs.declared.syntax.PrismLabel.{PrismLabel}
use Rattle.prism_tree.specs.Syntax.{File, Var, file_of, const_of, var_of, label_of}
use Rattle.name_table.specs.Asks.{variables}
use Rattle.prop_trees.specs.Trees.{Name}
use Rattle.prop_to_jani.specs.Code.{found}
use Rattle.prop_to_jani.proofs.Lookups.{names_are}
use Rattle.prop_to_jani.proofs.tables.property_names.Goals as goal

pub returns : goal.returns
returns c =
    let file : File = file_of c.args.file.now in
    let constants : c.len.result ≡ length file.constants = c.len.ensures ∙ sym (length-map c.args.file.now.constants const_of) in
    let vars : length c.args.vars.now ≡ length (variables file) = sym (length-map c.args.vars.now (λ x. var_of x.now)) ∙ ap length c.requires.vars in
    names_are file (record { values = c.in_ok-values.values; labels = c.in_ok-labels.labels }) c.requires.labels
    (λ x. c.in_ok-values.ensures x
    ∙ ap₂ (λ (a b : List Name). found a b x)
    (ap₂ (λ (a b : List Name). a ++ b) (ap (λ (l : List PrismConst). map (λ k. k.name.name) (map const_of l)) c.as_slice.ensures) (ap (λ (l : List Var). map (λ y. y.name.name) l) c.requires.vars))
    c.requires.news)
    (λ x. c.in_ok-labels.ensures x
    ∙ ap₂ (λ (a b : List Name). found a b x)
    (ap (λ (l : List PrismLabel). map (λ k. k.name.name) (map label_of l)) c.as_slice-2.ensures)
    (c.names_behind-behind.ensures
    ∙ ap (λ (n : ℕ). drop (length c.args.vars.now) (drop n c.args.news.now)) constants
    ∙ ap (λ (n : ℕ). drop n (drop (length file.constants) c.args.news.now)) vars
    ∙ ap (λ (l : List Name). drop (length (variables file)) (drop (length file.constants) l)) c.requires.news))
