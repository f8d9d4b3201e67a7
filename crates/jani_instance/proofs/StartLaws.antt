-- What a file starts with.
use Rattle.std.specs.Prelude.{◌≡◌, List, [], ◌++◌, map, Option, Some, None, ℕ}
use Rattle.std.specs.List.{position}
use Rattle.std.specs.Option.{option_map}
use Rattle.std.proofs.Common.{refl, ap, ◌∙◌}
use Rattle.std.proofs.Math.Path.{fun_ext}
use Rattle.op_trees.specs.Seen.{Seen, known, known_names}
use Rattle.op_trees.specs.declared.tree.Value.{Value}
use Rattle.name_rules.specs.Names.{under}
use Rattle.name_rules.specs.declared.map.NameMap.{NameMap}
use Rattle.process_core.specs.Ready.{Name}
use Rattle.process_core.specs.Instance.{Valuation}
use Rattle.process_core.specs.Product.{map-map}
use Rattle.state_choices.specs.Trimmed.{computed, trimmed_seen}
use Rattle.state_choices.specs.Views.{seen_of}
use Rattle.state_choices.proofs.ComputedLaws.{computed_laws}
use Rattle.jani_tree.specs.Syntax.{Automaton, Const, File}
use Rattle.op_trees.specs.Names.{is_called}
use Rattle.jani_meaning.specs.Elements.{Owned}
use Rattle.jani_meaning.specs.Scene.{column, constant_names, constant_seen, location_column, scene}
use Rattle.instance_start.specs.Columns.{trimmed_column, value_at}
use Rattle.instance_start.specs.declared.data.Place.{Place}
use Rattle.instance_start.specs.declared.data.Place.TheVariants.{Constant}
use Rattle.jani_instance.specs.Built.{value_from}
use Rattle.jani_instance.specs.Constants.{Tabled, constant_place, round_of}
use Rattle.jani_instance.specs.Transients.{transient_by}
use Rattle.jani_instance.specs.Views.{values_by}

-- ---- the constants' names alone
pub constant_at : (table : List (Option Value)) (o : Option ℕ) → value_at [] table (option_map Constant o) ≡ value_from table o
constant_at table None = refl
constant_at table (Some k) = refl

pub alone_names : (file : File) (v : Valuation) (places : NameMap Place) (table : List (Option Value)) → ((x : Name) → under places x ≡ constant_place file.constants x) → Tabled file v (Some table) →
    known_names (values_by places table) ≡ constant_names file v
alone_names file v places table h t =
    fun_ext (λ (x : Name). ap known (ap (value_at [] table) (h x) ∙ constant_at table (position (λ c. is_called x c.name) file.constants) ∙ t x))

-- ---- what constants come out as
pub constants_seen : (file : File) (v : Valuation) (table : List (Option Value)) → Tabled file v (Some table) → map seen_of (map computed (round_of file.constants v table)) ≡ map trimmed_seen (scene file v).constants
constants_seen file v table t =
    map-map seen_of computed (round_of file.constants v table)
    ∙ ap (λ (f : Seen → Seen). map f (round_of file.constants v table)) (fun_ext computed_laws.values)
    ∙ ap (λ (names : Name → Seen). map trimmed_seen (map (λ (c : Const). constant_seen (v c.name.name) names c.value) file.constants)) (fun_ext (λ (x : Name). ap known (t x)))

-- ---- the same of equal parts
pub same_columns : (as_ bs : List Automaton) (m n : Name → Seen) (os ps : List Owned) → as_ ≡ bs → m ≡ n → os ≡ ps →
    map trimmed_column (map location_column as_ ++ map (λ o. column m o.var) os) ≡ map trimmed_column (map location_column bs ++ map (λ o. column n o.var) ps)
same_columns as_ bs m n os ps a b c =
    ap (λ l. map trimmed_column (map location_column l ++ map (λ o. column m o.var) os)) a
    ∙ ap (λ (k : Name → Seen). map trimmed_column (map location_column bs ++ map (λ (o : Owned). column k o.var) os)) b
    ∙ ap (λ l. map trimmed_column (map location_column bs ++ map (λ (o : Owned). column n o.var) l)) c

pub same_transients : (as_ bs : List Automaton) (m n : Name → Seen) (os ps qs rs : List Owned) → as_ ≡ bs → m ≡ n → os ≡ ps → qs ≡ rs →
    map (transient_by as_ m) os ++ map (transient_by as_ m) qs ≡ map (transient_by bs n) ps ++ map (transient_by bs n) rs
same_transients as_ bs m n os ps qs rs a b c d =
    ap (λ l. map (transient_by l m) os ++ map (transient_by l m) qs) a
    ∙ ap (λ (k : Name → Seen). map (transient_by bs k) os ++ map (transient_by bs k) qs) b
    ∙ ap (λ l. map (transient_by bs n) l ++ map (transient_by bs n) qs) c
    ∙ ap (λ l. map (transient_by bs n) ps ++ map (transient_by bs n) l) d
