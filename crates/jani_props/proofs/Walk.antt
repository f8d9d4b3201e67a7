-- The soonest fault, item by item, member by member and row by row.
use Rattle.std.proofs.Common.{◌≡◌, ℕ, ◌+◌, ◌<◌, ◌≤◌, sym, ap, ◌∙◌, List, ◌++◌, Option, Some, None, length, drop, get_or, map, Bool}
use Rattle.std.proofs.lemmas.List.{drop_more}
use Rattle.basics.specs.Lists.{drop_item}
use Rattle.bridge_io.specs.declared.reason.Fault.{Fault}
use Rattle.bridge_io.specs.declared.reason.Named.{Named}
use Rattle.bridge_io.specs.declared.reason.Reason.TheVariants.{UnknownMember}
use Rattle.decimal_json.specs.declared.tree.Json.{Json}
use Rattle.decimal_json.specs.declared.tree.Json.TheVariants.{Object}
use Rattle.decimal_json.specs.declared.tree.Member.{Member}
use Rattle.jani_table.specs.Node.{Node, Fields, node, nodes, fields}
use Rattle.jani_table.specs.NodeLaws.{node_object, node_named, drop_all}
use Rattle.name_rules.specs.Least.{soonest, sooner}
use Rattle.jani_table.specs.Faults.{fault}
use Rattle.name_rules.proofs.Soonest.{soonest_append}
use Rattle.jani_props.specs.declared.table.PropForm.{PropForm}
use Rattle.jani_props.specs.declared.table.PropKind.{PropKind}
use Rattle.jani_props.specs.declared.shape.Reading.{Reading}
use Rattle.jani_props.specs.declared.shape.Reading.TheVariants.{As}
use Rattle.jani_props.specs.Table.{Row, known_form}
use Rattle.jani_props.specs.Shape.{faults, items_faults, members_faults, own_faults, reading, op_word, by_form, by_reading, row_faults, missing_faults}

-- rows, which may each be seen as a row of properties
module _ {A : Type 0} (row : A → Row) (ms : Fields) (close : ℕ) (rows : List A) (i : ℕ) (d : A) (best new all : Option Fault) where
  pub rows_next : new ≡ soonest best (row_faults ms close (row (get_or rows i d))) → soonest best (missing_faults ms close (map row (drop i rows))) ≡ all → i < length rows →
      soonest new (missing_faults ms close (map row (drop (i + 1) rows))) ≡ all
  rows_next n inv h =
      ap (λ b. soonest b (missing_faults ms close (map row (drop (i + 1) rows)))) n
      ∙ (sym (soonest_append best (row_faults ms close (row (get_or rows i d))) (missing_faults ms close (map row (drop (i + 1) rows))))
      ∙ (sym (ap (λ ys. soonest best (missing_faults ms close (map row ys))) (drop_more rows i d h)) ∙ inv))

pub own_next : (ms : Fields) (close : ℕ) (rows : List Row) (i : ℕ) (d : Row) (best new all : Option Fault) → new ≡ soonest best (row_faults ms close (get_or rows i d)) →
    soonest best (missing_faults ms close (drop i rows)) ≡ all → i < length rows → soonest new (missing_faults ms close (drop (i + 1) rows)) ≡ all
own_next ms close rows i d best new all n inv h =
    ap (λ b. soonest b (missing_faults ms close (drop (i + 1) rows))) n
    ∙ (sym (soonest_append best (row_faults ms close (get_or rows i d)) (missing_faults ms close (drop (i + 1) rows)))
    ∙ (sym (ap (λ ys. soonest best (missing_faults ms close ys)) (drop_more rows i d h)) ∙ inv))

module _ (given : List ℕ → Bool) where
  pub items_next : (g : PropForm) (vs : List Json) (i : ℕ) (x : Json) (best new all : Option Fault) → i < length vs → x ≡ get_or vs i x → new ≡ soonest best (faults given g (node x)) →
      soonest best (items_faults given g (nodes (drop i vs))) ≡ all → soonest new (items_faults given g (nodes (drop (i + 1) vs))) ≡ all
  items_next g vs i x best new all h e n inv =
      ap (λ b. soonest b (items_faults given g (nodes (drop (i + 1) vs)))) n
      ∙ (sym (soonest_append best (faults given g (node x)) (items_faults given g (nodes (drop (i + 1) vs))))
      ∙ (sym (ap (λ ys. soonest best (items_faults given g (nodes ys))) (drop_item vs i x h e)) ∙ inv))

  abbrev pub member_part : PropKind → Named × Node → List Fault
  member_part kind p = by_form (known_form kind p.0.name) (fault p.0.at UnknownMember) (λ g. faults given g p.1)

  module _ (kind : PropKind) (ms : List Member) (i : ℕ) (m : Member) (best new all : Option Fault) where
    members_next : i < length ms → m ≡ get_or ms i m → new ≡ soonest best (member_part kind (m.key, node m.value)) → soonest best (members_faults given kind (fields (drop i ms))) ≡ all →
        soonest new (members_faults given kind (fields (drop (i + 1) ms))) ≡ all
    members_next h e n inv =
        let rest : List Fault = members_faults given kind (fields (drop (i + 1) ms)) in
        ap (λ b. soonest b rest) n
        ∙ (sym (soonest_append best (member_part kind (m.key, node m.value)) rest)
        ∙ (sym (ap (λ p. soonest best (member_part kind p ++ rest)) (node_named m))
        ∙ (sym (ap (λ ys. soonest best (members_faults given kind (fields ys))) (drop_item ms i m h e)) ∙ inv)))

    pub members_next_some : (g : PropForm) → known_form kind m.key.name ≡ Some g → i < length ms → m ≡ get_or ms i m → new ≡ soonest best (faults given g (node m.value)) →
        soonest best (members_faults given kind (fields (drop i ms))) ≡ all → soonest new (members_faults given kind (fields (drop (i + 1) ms))) ≡ all
    members_next_some g f h e n inv = members_next h e (n ∙ sym (ap (λ o. soonest best (by_form o (fault m.key.at UnknownMember) (λ g. faults given g (node m.value)))) f)) inv

    pub members_next_none : known_form kind m.key.name ≡ None → i < length ms → m ≡ get_or ms i m → new ≡ sooner best (record { reason = UnknownMember; at = m.key.at }) →
        soonest best (members_faults given kind (fields (drop i ms))) ≡ all → soonest new (members_faults given kind (fields (drop (i + 1) ms))) ≡ all
    members_next_none f h e n inv = members_next h e (n ∙ sym (ap (λ o. soonest best (by_form o (fault m.key.at UnknownMember) (λ g. faults given g (node m.value)))) f)) inv

  -- an object, by what it is read as
  object_by : (form : PropForm) (r : Reading) (v : Json) (at close : ℕ) (ms : List Member) (first : Option Fault) → reading form (op_word (fields ms)) ≡ r → v ≡ Object at ms close →
      soonest first (by_reading form r at (λ k. members_faults given k (fields ms) ++ own_faults given k (fields ms) at close)) ≡ soonest first (faults given form (node v))
  object_by form r v at close ms first k e =
      sym (ap (λ w. soonest first (faults given form (node w))) e ∙ (ap (λ w. soonest first (faults given form w)) (node_object at ms close)
      ∙ ap (λ r. soonest first (by_reading form r at (λ k. members_faults given k (fields ms) ++ own_faults given k (fields ms) at close))) k))

  pub members_done : (form : PropForm) (kind : PropKind) (v : Json) (at close : ℕ) (ms : List Member) (i : ℕ) (best first last : Option Fault) → reading form (op_word (fields ms)) ≡ As kind → v ≡ Object at ms close →
      length ms ≤ i → soonest best (members_faults given kind (fields (drop i ms))) ≡ soonest first (members_faults given kind (fields ms)) → last ≡ soonest best (own_faults given kind (fields ms) at close) →
      last ≡ soonest first (faults given form (node v))
  members_done form kind v at close ms i best first last k e h inv l =
      let own : List Fault = own_faults given kind (fields ms) at close in
      let b : best ≡ soonest first (members_faults given kind (fields ms)) = sym (ap (λ ys. soonest best (members_faults given kind (fields ys))) (drop_all ms i h)) ∙ inv in
      l ∙ (ap (λ b. soonest b own) b
      ∙ (sym (soonest_append first (members_faults given kind (fields ms)) own) ∙ object_by form (As kind) v at close ms first k e))
