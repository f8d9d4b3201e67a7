-- The names in expressions of a file without faults are those of constants and of variables that are not transient.
use Rattle.std.specs.Prelude.{◌≡◌, ℕ, List, [], Bool, true, false, not, ◌||◌}
use Rattle.std.specs.List.{flat_map, AllByRecursion as OfAll}
use Rattle.std.proofs.lemmas.Bool.{or_parts, not-false}
use Rattle.basics.specs.Each.{each_then, empty_each}
use Rattle.basics.specs.Lists.{append_right}
use Rattle.bridge_io.specs.declared.reason.Named.{Named}
use Rattle.bridge_io.specs.declared.reason.Reason.TheVariants.{Unknown, TransientRead, NotConstant, LabelOnEdge}
use Rattle.op_trees.specs.Tree.{AllNames}
use Rattle.op_trees.specs.Names.{offset_of, names_of, some_name}
use Rattle.op_trees.specs.NameLaws.{none_named, names_with as both_names}
use Rattle.name_table.proofs.NamesIn.{listed_names}
use Rattle.jani_tree.specs.Syntax.{Expression, Write, File}
use Rattle.jani_tree.specs.Canonical.{HasOperands}
use Rattle.name_rules.specs.Least.{fault_if}
use Rattle.name_rules.proofs.Plain.{no_fault}
use Rattle.jani_check.specs.Things.{is_label, global_thing, beside, types_by}
use Rattle.jani_check.specs.Demands.{fixed, varying, assigned, given}
use Rattle.jani_check.specs.NameFaults.{unless_known}
use Rattle.jani_check.specs.TypeFaults.{has_variable, type_faults_of}
use Rattle.jani_check.specs.ProfileFaults.{read_fault, reads}
use Rattle.prism_translation.specs.Sound.{IsConstant, IsKnown, NamesConstants, KnownExpression}
use Rattle.prism_translation.proofs.Scopes.{own_vars, NamesApart, is_known_name, is_transient_name, is_variable_name, known_name, constant_name}
use Rattle.prism_translation.proofs.Clean.{IsJudged}

-- ---- expressions of an element
module _ (file : File) (k : ℕ) (names : NamesApart file (own_vars file k)) where
  known_all : (ns : List Named) → flat_map (unless_known (is_known_name file k names)) ns ≡ [] → OfAll (λ n. is_known_name file k names n.name ≡ true) ns
  known_all ns e =
      each_then (λ n. unless_known (is_known_name file k names) n ≡ []) (λ n. is_known_name file k names n.name ≡ true)
      (λ n h. not-false (is_known_name file k names n.name) (no_fault (not (is_known_name file k names n.name)) n.at Unknown h)) ns (empty_each (unless_known (is_known_name file k names)) ns e)

  unread_all : (ns : List Named) → flat_map (read_fault (beside (global_thing file) (own_vars file k))) ns ≡ [] → OfAll (λ n. is_transient_name file k names n.name ≡ false) ns
  unread_all ns e =
      each_then (λ n. read_fault (beside (global_thing file) (own_vars file k)) n ≡ []) (λ n. is_transient_name file k names n.name ≡ false)
      (λ n h. no_fault (is_transient_name file k names n.name) n.at TransientRead h) ns (empty_each (read_fault (beside (global_thing file) (own_vars file k))) ns e)

  pub known_names : (e : Expression) → flat_map (unless_known (is_known_name file k names)) (names_of e) ≡ [] → reads (beside (global_thing file) (own_vars file k)) e ≡ [] → AllNames (IsKnown file k) e
  known_names e n p =
      both_names (λ x. is_known_name file k names x ≡ true) (λ x. is_transient_name file k names x ≡ false) (IsKnown file k) (known_name file k names) e
      (listed_names (λ x. is_known_name file k names x ≡ true) e (known_all (names_of e) n))
      (listed_names (λ x. is_transient_name file k names x ≡ false) e (unread_all (names_of e) p))

  pub known_expression : (w : _) (e : Expression) → IsJudged file (own_vars file k) (varying w e) → HasOperands e → KnownExpression file k e
  known_expression w e j h = (h, known_names e j.names j.profile)

  pub known_assigned : (x : Write) → IsJudged file (own_vars file k) (assigned x) → HasOperands x.value → KnownExpression file k x.value
  known_assigned x j h = (
    h,
    known_names x.value (append_right (unless_known (is_known_name file k names) x.target) _ j.names)
        (append_right (fault_if (is_label (beside (global_thing file) (own_vars file k) x.target.name)) x.target.at LabelOnEdge) _ j.profile),
  )

  pub known_given : (x : Write) → IsJudged file (own_vars file k) (given x) → HasOperands x.value → KnownExpression file k x.value
  known_given x j h = (h, known_names x.value (append_right (unless_known (is_known_name file k names) x.target) _ j.names) j.profile)

  pub constant_expression : (w : _) (e : Expression) → IsJudged file (own_vars file k) (fixed w e) → HasOperands e → NamesConstants file k e
  constant_expression w e j h = (
    h,
    both_names (λ x. is_known_name file k names x ≡ true) (λ x. is_variable_name file k names x ≡ false) (IsConstant file k) (constant_name file k names) e
        (listed_names (λ x. is_known_name file k names x ≡ true) e (known_all (names_of e) j.names))
        (none_named (is_variable_name file k names) e
        (no_fault (has_variable (beside (global_thing file) (own_vars file k)) e) (offset_of e) NotConstant
        (append_right (type_faults_of (types_by (beside (global_thing file) (own_vars file k))) w e) _ j.types))),
  )
