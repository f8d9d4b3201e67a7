-- The soonest fault, item by item and member by member.
use Rattle.std.proofs.Common.{◌≡◌, ℕ, ◌+◌, ◌<◌, ◌≤◌, sym, ap, ◌∙◌, List, ◌++◌, Option, Some, None, length, drop, get_or}
use Rattle.std.proofs.lemmas.List.{drop_more}
use Rattle.basics.specs.Lists.{drop_item}
use Rattle.bridge_io.specs.declared.reason.Fault.{Fault}
use Rattle.bridge_io.specs.declared.reason.Named.{Named}
use Rattle.bridge_io.specs.declared.reason.Reason.TheVariants.{UnknownMember}
use Rattle.decimal_json.specs.declared.tree.Json.{Json}
use Rattle.decimal_json.specs.declared.tree.Json.TheVariants.{Array, Object}
use Rattle.decimal_json.specs.declared.tree.Member.{Member}
use Rattle.jani_table.specs.declared.table.Form.{Form}
use Rattle.jani_table.specs.declared.table.Kind.{Kind}
use Rattle.jani_table.specs.Node.{Node, Fields, node, nodes, fields}
use Rattle.jani_table.specs.NodeLaws.{node_array, node_object, node_named, drop_all}
use Rattle.jani_table.specs.Table.{Row, item_form, known_form}
use Rattle.jani_table.specs.Words.{kind_fault}
use Rattle.name_rules.specs.Least.{soonest, sooner}
use Rattle.jani_table.specs.Faults.{faults, items_faults, members_faults, list_faults, own_faults, object_kind, by_form, by_kind, fault, fault_if, row_faults, missing_faults}
use Rattle.name_rules.proofs.Soonest.{soonest_append}

pub items_next : (g : Form) (vs : List Json) (i : ℕ) (x : Json) (best new all : Option Fault) → i < length vs → x ≡ get_or vs i x → new ≡ soonest best (faults g (node x)) →
    soonest best (items_faults g (nodes (drop i vs))) ≡ all → soonest new (items_faults g (nodes (drop (i + 1) vs))) ≡ all
items_next g vs i x best new all h e n inv =
    ap (λ b. soonest b (items_faults g (nodes (drop (i + 1) vs)))) n
    ∙ (sym (soonest_append best (faults g (node x)) (items_faults g (nodes (drop (i + 1) vs))))
    ∙ (sym (ap (λ ys. soonest best (items_faults g (nodes ys))) (drop_item vs i x h e)) ∙ inv))

pub items_done : (form item : Form) (v : Json) (at : ℕ) (vs : List Json) (i : ℕ) (best first last : Option Fault) → item_form form ≡ Some item → v ≡ Array at vs → length vs ≤ i →
    soonest best (items_faults item (nodes (drop i vs))) ≡ soonest first (items_faults item (nodes vs)) → last ≡ soonest best (list_faults form at (nodes vs)) →
    last ≡ soonest first (faults form (node v))
items_done form item v at vs i best first last f e h inv l =
    let own : List Fault = list_faults form at (nodes vs) in
    let b : best ≡ soonest first (items_faults item (nodes vs)) = sym (ap (λ ys. soonest best (items_faults item (nodes ys))) (drop_all vs i h)) ∙ inv in
    l ∙ (ap (λ b. soonest b own) b
    ∙ (sym (soonest_append first (items_faults item (nodes vs)) own)
    ∙ sym (ap (λ w. soonest first (faults form (node w))) e ∙ (ap (λ w. soonest first (faults form w)) (node_array at vs)
    ∙ ap (λ o. soonest first (by_form o (fault_if at (kind_fault form)) (λ g. items_faults g (nodes vs) ++ list_faults form at (nodes vs)))) f))))

pub rows_next : (ms : Fields) (close : ℕ) (rows : List Row) (i : ℕ) (r : Row) (best new all : Option Fault) → new ≡ soonest best (row_faults ms close (get_or rows i r)) →
    soonest best (missing_faults ms close (drop i rows)) ≡ all → i < length rows → soonest new (missing_faults ms close (drop (i + 1) rows)) ≡ all
rows_next ms close rows i r best new all n inv h =
    ap (λ b. soonest b (missing_faults ms close (drop (i + 1) rows))) n
    ∙ (sym (soonest_append best (row_faults ms close (get_or rows i r)) (missing_faults ms close (drop (i + 1) rows)))
    ∙ (sym (ap (λ ys. soonest best (missing_faults ms close ys)) (drop_more rows i r h)) ∙ inv))

abbrev pub member_part : Kind → Named × Node → List Fault
member_part kind p = by_form (known_form kind p.0.name) (fault p.0.at UnknownMember) (λ g. faults g p.1)

module _ (kind : Kind) (ms : List Member) (i : ℕ) (m : Member) (best new all : Option Fault) where
  pub members_next : i < length ms → m ≡ get_or ms i m → new ≡ soonest best (member_part kind (m.key, node m.value)) → soonest best (members_faults kind (fields (drop i ms))) ≡ all →
      soonest new (members_faults kind (fields (drop (i + 1) ms))) ≡ all
  members_next h e n inv =
      let rest : List Fault = members_faults kind (fields (drop (i + 1) ms)) in
      ap (λ b. soonest b rest) n
      ∙ (sym (soonest_append best (member_part kind (m.key, node m.value)) rest)
      ∙ (sym (ap (λ p. soonest best (member_part kind p ++ rest)) (node_named m))
      ∙ (sym (ap (λ ys. soonest best (members_faults kind (fields ys))) (drop_item ms i m h e)) ∙ inv)))

  pub members_next_some : (g : Form) → known_form kind m.key.name ≡ Some g → i < length ms → m ≡ get_or ms i m → new ≡ soonest best (faults g (node m.value)) →
      soonest best (members_faults kind (fields (drop i ms))) ≡ all → soonest new (members_faults kind (fields (drop (i + 1) ms))) ≡ all
  members_next_some g f h e n inv = members_next h e (n ∙ sym (ap (λ o. soonest best (by_form o (fault m.key.at UnknownMember) (λ g. faults g (node m.value)))) f)) inv

  pub members_next_none : known_form kind m.key.name ≡ None → i < length ms → m ≡ get_or ms i m → new ≡ sooner best (record { reason = UnknownMember; at = m.key.at }) →
      soonest best (members_faults kind (fields (drop i ms))) ≡ all → soonest new (members_faults kind (fields (drop (i + 1) ms))) ≡ all
  members_next_none f h e n inv = members_next h e (n ∙ sym (ap (λ o. soonest best (by_form o (fault m.key.at UnknownMember) (λ g. faults g (node m.value)))) f)) inv

pub members_done : (form : Form) (kind : Kind) (v : Json) (at close : ℕ) (ms : List Member) (i : ℕ) (best first last : Option Fault) → object_kind form (fields ms) ≡ Some kind → v ≡ Object at ms close →
    length ms ≤ i → soonest best (members_faults kind (fields (drop i ms))) ≡ soonest first (members_faults kind (fields ms)) → last ≡ soonest best (own_faults kind (fields ms) at close) →
    last ≡ soonest first (faults form (node v))
members_done form kind v at close ms i best first last k e h inv l =
    let own : List Fault = own_faults kind (fields ms) at close in
    let b : best ≡ soonest first (members_faults kind (fields ms)) = sym (ap (λ ys. soonest best (members_faults kind (fields ys))) (drop_all ms i h)) ∙ inv in
    l ∙ (ap (λ b. soonest b own) b
    ∙ (sym (soonest_append first (members_faults kind (fields ms)) own)
    ∙ sym (ap (λ w. soonest first (faults form (node w))) e ∙ (ap (λ w. soonest first (faults form w)) (node_object at ms close)
    ∙ ap (λ o. soonest first (by_kind o (fault_if at (kind_fault form)) (λ k. members_faults k (fields ms) ++ own_faults k (fields ms) at close))) k))))
