-- The new names of a file by their classes, taken from what the classes before leave.
use Rattle.std.proofs.Common.{◌≡◌, ℕ, List, length, take, drop, ap, ◌∙◌}
use Rattle.process_core.specs.Ready.{Name}
use Rattle.prism_tree.specs.Syntax.{File}
use Rattle.name_table.specs.declared.entry.Entry.{Entry}
use Rattle.name_table.specs.Asks.{variables, actions, new_name, value_names, NewNames, some_from, labels_at, rewards_at, modules_at, actions_at, names_by}
use Rattle.name_table.proofs.EntryLemmas.{further, part}

pub dropped : (es r : List Entry) (m n : ℕ) → r ≡ drop m es → m ≡ n → r ≡ drop n es
dropped es r m n h e = h ∙ ap (λ (k : ℕ). drop k es) e

pub first : (es r : List Entry) (m n : ℕ) → r ≡ take m es → m ≡ n → r ≡ take n es
first es r m n h e = h ∙ ap (λ (k : ℕ). take k es) e

abbrev pub made : List Entry → List Entry → List Entry → List Entry → List Entry → (Name → Name) → (Name → Name) → NewNames
made cs vs ls rs ms f g = record { constants = cs; variables = vs; labels = ls; rewards = rs; modules = ms; value = f; action = g }

same_names : (cs vs ls rs ms us ws ks qs ns : List Entry) (f g p q : Name → Name) → cs ≡ us → vs ≡ ws → ls ≡ ks → rs ≡ qs → ms ≡ ns →
    ((x : Name) → f x ≡ p x) → ((x : Name) → g x ≡ q x) →
    made cs vs ls rs ms f g ≡ made us ws ks qs ns p q
same_names cs vs ls rs ms us ws ks qs ns f g p q h1 h2 h3 h4 h5 hf hg = λ k. record {
  constants = h1 k;
  variables = h2 k;
  labels = h3 k;
  rewards = h4 k;
  modules = h5 k;
  value = λ x. hf x k;
  action = λ x. hg x k;
}

pub names_are : (file : File) (es e1 e2 e3 e4 e5 cs vs ls rs ms : List Entry) (f g : Name → Name) →
    e1 ≡ drop (length file.constants) es → e2 ≡ drop (length (variables file)) e1 → e3 ≡ drop (length file.labels) e2 → e4 ≡ drop (length file.rewards) e3 → e5 ≡ drop (length file.modules) e4 →
    cs ≡ take (length file.constants) es → vs ≡ take (length (variables file)) e1 → ls ≡ take (length file.labels) e2 → rs ≡ take (length file.rewards) e3 → ms ≡ take (length file.modules) e4 →
    ((x : Name) → f x ≡ new_name (value_names file) es x) → ((x : Name) → g x ≡ new_name (actions file) e5 x) →
    made cs vs ls rs ms f g ≡ names_by file es
names_are file es e1 e2 e3 e4 e5 cs vs ls rs ms f g d1 k2 k3 k4 k5 t1 t2 t3 t4 t5 hf hg =
    let d2 : e2 ≡ drop (labels_at file es) es = further es e1 e2 (length file.constants) (length (variables file)) d1 k2 in
    let d3 : e3 ≡ drop (rewards_at file es) es = further es e2 e3 (labels_at file es) (length file.labels) d2 k3 in
    let d4 : e4 ≡ drop (modules_at file es) es = further es e3 e4 (rewards_at file es) (length file.rewards) d3 k4 in
    let d5 : e5 ≡ drop (actions_at file es) es = further es e4 e5 (modules_at file es) (length file.modules) d4 k5 in
    same_names cs vs ls rs ms (some_from 0 (length file.constants) es) (some_from (length file.constants) (length (variables file)) es) (some_from (labels_at file es) (length file.labels) es)
    (some_from (rewards_at file es) (length file.rewards) es) (some_from (modules_at file es) (length file.modules) es) f g (new_name (value_names file) es)
    (new_name (actions file) (drop (actions_at file es) es)) t1
    (part es e1 vs (length file.constants) (length (variables file)) d1 t2)
    (part es e2 ls (labels_at file es) (length file.labels) d2 t3)
    (part es e3 rs (rewards_at file es) (length file.rewards) d3 t4)
    (part es e4 ms (modules_at file es) (length file.modules) d4 t5)
    hf
    (λ x. hg x ∙ ap (λ (l : List Entry). new_name (actions file) l x) d5)
