-- The entries of a file by their classes, taken from what the classes before leave.
use Rattle.std.proofs.Common.{◌≡◌, List, length, take, drop, ◌∙◌, map}
use Rattle.jani_tree.specs.Syntax.{File, element_names, element_of}
use Rattle.jani_meaning.specs.Elements.{lasting, labels, structures}
use Rattle.name_table.specs.declared.entry.Entry.{Entry}
use Rattle.name_table.specs.PrismAsks.{NewNames, names_by, locations_at, modules_at, labels_at, rewards_at}
use Rattle.name_table.proofs.EntryLemmas.{further, part}
use Rattle.jani_tree.specs.declared.syntax.JaniElement.{JaniElement}
use Rattle.std.proofs.lemmas.List.{length-map}

abbrev pub made : List Entry → List Entry → List Entry → List Entry → List Entry → List Entry → List Entry → NewNames
made cs vs ks ms ls rs us = record { constants = cs; variables = vs; locations = ks; modules = ms; labels = ls; rewards = rs; actions = us }

-- what is dropped, and taken, by counts that are the lengths
pub classes_are : (file : File) (es e1 e2 e3 e4 e5 e6 cs vs ks ms ls rs : List Entry) →
    e1 ≡ drop (length file.constants) es → e2 ≡ drop (length (lasting file)) e1 → e3 ≡ drop (length (element_names file)) e2 → e4 ≡ drop (length (element_names file)) e3 →
    e5 ≡ drop (length (labels file)) e4 → e6 ≡ drop (length (structures file)) e5 →
    cs ≡ take (length file.constants) es → vs ≡ take (length (lasting file)) e1 → ks ≡ take (length (element_names file)) e2 → ms ≡ take (length (element_names file)) e3 →
    ls ≡ take (length (labels file)) e4 → rs ≡ take (length (structures file)) e5 → made cs vs ks ms ls rs e6 ≡ names_by file es
classes_are file es e1 e2 e3 e4 e5 e6 cs vs ks ms ls rs d1 k2 k3 k4 k5 k6 t1 t2 t3 t4 t5 t6 =
    let d2 : e2 ≡ drop (locations_at file) es = further es e1 e2 (length file.constants) (length (lasting file)) d1 k2 in
    let d3 : e3 ≡ drop (modules_at file) es = further es e2 e3 (locations_at file) (length (element_names file)) d2 k3 in
    let d4 : e4 ≡ drop (labels_at file) es = further es e3 e4 (modules_at file) (length (element_names file)) d3 k4 in
    let d5 : e5 ≡ drop (rewards_at file) es = further es e4 e5 (labels_at file) (length (labels file)) d4 k5 in
    λ i. record {
      constants = t1 i;
      variables = part es e1 vs (length file.constants) (length (lasting file)) d1 t2 i;
      locations = part es e2 ks (locations_at file) (length (element_names file)) d2 t3 i;
      modules = part es e3 ms (modules_at file) (length (element_names file)) d3 t4 i;
      labels = part es e4 ls (labels_at file) (length (labels file)) d4 t5 i;
      rewards = part es e5 rs (rewards_at file) (length (structures file)) d5 t6 i;
      actions = further es e5 e6 (rewards_at file) (length (structures file)) d5 k6 i;
    }

-- how many elements there are, as the code has them
pub elements_counted : (es : List JaniElement) → length (map (λ e. e.name) (map element_of es)) ≡ length es
elements_counted es = length-map (map element_of es) (λ e. e.name) ∙ length-map es element_of
