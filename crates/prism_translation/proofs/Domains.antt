-- The columns of a translated file have the ranges of those columns of the file that they are.
use Rattle.std.specs.Prelude.{◌≡◌, ℕ, ◌-◌, map, length, Some, get_or}
use Rattle.std.specs.List.{All}
use Rattle.std.proofs.Common.{refl, sym, ap, ap₂, ◌∙◌}
use Rattle.frac_core.specs.Decimal.{decimal_value-whole}
use Rattle.op_trees.specs.declared.tree.Value.TheVariants as V
use Rattle.op_trees.specs.Seen.{Seen, known}
use Rattle.op_trees.specs.SeenLaws.{names_then}
use Rattle.process_core.specs.Ready.{Name}
use Rattle.prism_names.specs.Names as prism_names
use Rattle.prism_names.specs.Names.{unchanged, part_of}
use Rattle.process_core.specs.Instance.{Valuation, Domain, Truths, Between, domain_at}
use Rattle.prism_flat.specs.Scene as prism_scene
use Rattle.jani_tree.specs.Syntax.{Expression, VarKind, boolean, integer, number, real_bounded, one_sided, bounded, File}
use Rattle.jani_meaning.specs.Elements.{lasting}
use Rattle.jani_meaning.specs.Scene as jani_scene
use Rattle.jani_meaning.specs.Scene.{location_column}
use Rattle.name_table.specs.PrismAsks.{NewNames, value_name}
use Rattle.jani_images.specs.Image.{image}
use Rattle.prism_translation.specs.Elements.{Element, elements, lasting_variables}
use Rattle.prism_translation.specs.Names.{new_names}
use Rattle.prism_translation.specs.Parts.{counted, whole_literal, range_of, scope_of, location_variable}
use Rattle.prism_translation.specs.StateLaws.{columns}
use Rattle.prism_translation.specs.Translated.{translated}
use Rattle.prism_translation.specs.Sound.{IsConstant, NamesConstants, SoundKind, FileIsSound, GivesAlike}
use Rattle.prism_translation.proofs.ColumnsAlike.{range_of_column, IsThere, columns_alike, column_here, variables_there, locations_there}
use Rattle.prism_translation.proofs.Numbered.{lasting_owned}
use Rattle.jani_images.proofs.ImageSeen.{image_seen}
use Rattle.prism_translation.proofs.NamesAlike.{constant_alike, plain_reading}

module _ (file : File) (v w : Valuation) where
  abbrev names : NewNames
  names = new_names file

  module _ (sound : FileIsSound file) (alike : GivesAlike file v w) where
    abbrev pub constants_here : Name → Seen
    constants_here = prism_scene.constant_names (translated file) v unchanged

    pub constants_here_are : (y : Name) → constants_here y ≡ known (prism_scene.constant (translated file) v y)
    constants_here_are y = ap (λ f. f y) (plain_reading file v w (λ x. known (prism_scene.constant (translated file) v x)))

    pub see_bound : (k : ℕ) (e : Expression) → NamesConstants file k e → prism_names.see (image (value_name file names k) e) constants_here ≡ jani_scene.see e (jani_scene.constant_names file w)
    unfolding prism_names.see jani_scene.see
    see_bound k e h =
        image_seen (value_name file names k) (jani_scene.constant_names file w) constants_here e
        (names_then (IsConstant file k) (λ x. constants_here (value_name file names k x) ≡ jani_scene.constant_names file w x)
        (λ x g. constants_here_are (value_name file names k x) ∙ ap known (constant_alike file v w sound.constants alike k x g)) e h.1) h.0

    pub see_count : (i : ℕ) → prism_names.see (counted i) constants_here ≡ jani_scene.counted i
    unfolding prism_names.see
    see_count i = ap (λ x. known (Some (V.Number x))) (decimal_value-whole (whole_literal i) refl)

    kind_alike : (k : ℕ) (t : VarKind) → SoundKind file k t → prism_scene.domain_of constants_here (range_of file names (value_name file names k) t) ≡ jani_scene.domain_of (jani_scene.constant_names file w) t
    kind_alike k (bounded low high) h = ap₂ Between (see_bound k low h.0) (see_bound k high h.1)
    kind_alike k boolean h = refl
    kind_alike k integer h = refl
    kind_alike k number h = refl
    kind_alike k real_bounded h = refl
    kind_alike k one_sided h = refl

    -- ---- ranges
    abbrev pub range_at : ℕ → Domain
    range_at j = domain_at (jani_scene.columns_of file w) j

    variable_alike : All (IsThere file v range_of_column range_at) (lasting_variables file)
    variable_alike i d l =
        let x = get_or (lasting_variables file) i d in
        let sound_kind = lasting_owned (λ o. SoundKind file (scope_of file names o) o.var.kind) 0 (lasting file) sound.kinds i d l in
        kind_alike (scope_of file names x.owned) x.owned.var.kind sound_kind ∙ variables_there file w range_of_column Truths i d l

    pub range_of_location : All (λ el. range_at el.number ≡ (location_column el.automaton).domain) (elements file)
    range_of_location = locations_there file w range_of_column Truths

    location_alike : (el : Element) → (column_here file v (location_variable file names el)).domain ≡ (location_column el.automaton).domain
    location_alike el = ap₂ Between (see_count 0) (see_count (length el.automaton.locations - 1))

    -- The columns have the ranges of those that they are.
    pub domains_alike : map range_of_column (prism_scene.columns_of (translated file) v) ≡ map range_at (columns file)
    domains_alike = columns_alike file v range_of_column range_at variable_alike (λ i d l. location_alike (get_or (elements file) i d) ∙ sym (range_of_location i d l))
