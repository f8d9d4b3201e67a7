-- Properties agree with their translations.
use Rattle.std.proofs.Common.{◌≡◌, refl, sym, ap, subst, ◌∙◌, arith, length-append, length, Bool, true, not, List, [], ◌∷◌, ◌++◌, map, Option, Some, None}
use Rattle.std.specs.Prelude.{IsTrue, is_some, if◌then◌else◌}
use Rattle.std.specs.List.{AllByRecursion as Each, flat_map, zip}
use Rattle.std.proofs.lemmas.Bool.{not-false}
use Rattle.std.proofs.lemmas.List.{length-map, length-drop}
use Rattle.basics.specs.Each.{each_then, each_with, each_parts, each_of, empty_each}
use Rattle.basics.specs.Lists.{append_parts, empty_map}
use Rattle.bridge_io.specs.declared.reason.Named.{Named}
use Rattle.bridge_io.specs.declared.reason.Reason.TheVariants.{TwiceNamed, Unknown, WrongType}
use Rattle.name_rules.specs.Least.{fault}
use Rattle.name_rules.specs.Unknown.{unless_known}
use Rattle.op_trees.specs.Tree.{AllNames, renamed}
use Rattle.op_trees.specs.Names.{names_of}
use Rattle.op_trees.specs.NameLaws.{names_renamed, names_with}
use Rattle.op_trees.specs.SeenLaws.{names_then}
use Rattle.op_trees.specs.Types.{misfits, type_in}
use Rattle.op_trees.specs.TypeLaws.{misfits_none}
use Rattle.prism_tree.specs.Operators.{prism_meaning}
use Rattle.prism_tree.specs.Syntax.{Expression, File}
use Rattle.prism_names.specs.Flat.{flat}
use Rattle.prism_names.specs.Names.{formula_body}
use Rattle.prism_names.specs.Order as plain
use Rattle.prism_names.specs.Order.{whole_plain}
use Rattle.prism_names.specs.Places.{at_places, formula_names}
use Rattle.prism_flat.specs.Kept.{IsWrittenOut}
use Rattle.basics.specs.Options.{IfAny}
use Rattle.prism_check.specs.NameFaults.{is_among, given_labels, values}
use Rattle.prism_tree.specs.Grammar.{unquoted}
use Rattle.name_rules.specs.Doubled.{doubled}
use Rattle.name_rules.proofs.Plain.{no_fault}
use Rattle.prism_check.proofs.NamesIn.{listed_names, names_written_out}
use Rattle.prism_flat.specs.FlatLaws.{is_written_out}
use Rattle.name_table.specs.declared.entry.Entry.{Entry}
use Rattle.name_table.specs.Laws.{OneEach}
use Rattle.name_table.specs.declared.class.NameClass.TheVariants.{Property as OfProperty}
use Rattle.name_table.specs.declared.class.Target.TheVariants.{Jani}
use Rattle.name_table.specs.Entries.{Ask as Wanted, entries_of}
use Rattle.name_table.specs.Asks.{asks}
use Rattle.prism_images.specs.Laws.{TypedImageSeenAlike, AgreeingIsNoNumber, IsNoNumberOf}
use Rattle.prop_grammar.specs.Property.{Ask, greatest, least, bounded, greatest_reward, least_reward, Path, finally, globally, until, weak_until, finally_within, until_within}
use Rattle.prop_grammar.specs.Syntax.{WrittenProperty}
use Rattle.prop_trees.specs.Trees.{Name, PrismProperty, Role, parts, ask_parts, path_parts, ask_with, path_with, SameAsk, SamePath}
use Rattle.prop_trees.specs.Names.{filed_name, meant}
use Rattle.prop_trees.specs.PrismFaults.{all_parts, is_known, unknown_in, name_types, type_faults_of, part_faults, filed, number_of, AreSound, titles, structures, unknown_structure}
use Rattle.prop_trees.specs.Agree.{jani_seen, SameValue, Agree, AllAgree}
use Rattle.prop_trees.proofs.Made.{parts_with}
use Rattle.prop_to_jani.specs.ToJani.{naming, whole, new_property_name, translated_expression, translated_property, property_asks, property_entries}
use Rattle.prop_to_jani.specs.Laws.{TranslatedAgree}
use Rattle.prop_to_jani.proofs.Judged.{IsJudged, IsPlain, judged}
use Rattle.prism_check.proofs.NoFaults.{IsKnown}
use Rattle.prop_to_jani.proofs.Filed.{whole_filed, whole_seen, whole_seen_alike, meant_type, whole_typed}
use Rattle.prop_to_jani.proofs.Corresponding.{name_same, name_truth}

-- ---- an expression
module _ (file : File) (order : List Name) (is : IsJudged file order) (written_out : IsWrittenOut (flat file))
    (image_seen : TypedImageSeenAlike) (agreeing : AgreeingIsNoNumber) where
  -- names are known, and the expression has a type
  pub record IsFine (e : Expression) : Type 0 where
    pub known : AllNames (λ x. is_known file x ≡ true) e
    pub typed : IsTrue (is_some (type_in prism_meaning (name_types file) e))

  -- a body of a known name has known names
  known_body : (x : Name) (o : Option Expression) → IfAny (AllNames IsPlain) o → IfAny (AllNames (IsKnown file)) o → IfAny (AllNames (λ y. is_known file y ≡ true)) o
  known_body x None p k = tt
  known_body x (Some b) p k = names_with IsPlain (IsKnown file) (λ y. is_known file y ≡ true) known_plain b p k
    where
      known_plain : (y : Name) → IsPlain y → IsKnown file y → is_known file y ≡ true
      known_plain y q h = ap (known_if y) q ∙ h
        where
          known_if : Name → Bool → Bool
          known_if z b = if b then is_among (given_labels ++ map (λ l. l.name) file.labels) (unquoted z) else is_among (values file) z

  -- the names that are left where formulas are written out are known, and none is a formula's
  pub record IsLeft (x : Name) : Type 0 where
    pub known : is_known file x ≡ true
    pub free : formula_body file x ≡ None

  pub names_left : (e : Expression) → IsFine e → AllNames IsLeft (plain.whole file e)
  names_left e f =
      names_with (λ x. is_known file x ≡ true) (λ x. formula_body file x ≡ None) IsLeft (λ x k n. record { known = k; free = n }) (plain.whole file e)
      (names_written_out (λ x. is_known file x ≡ true) (formula_body file) (λ x k. known_body x (formula_body file x) (is.bodies x) (is.known x)) (length file.formulas) e f.known)
      (whole_plain file order is.ordered e)

  pub value_same : (e : Expression) → IsFine e → SameValue file (naming (flat file)) (renamed filed_name e) (translated_expression file (renamed filed_name e))
  value_same e f p j typed match =
      let new : Name → Name = new_property_name (flat file) in
      let law = image_seen new (whole file (renamed filed_name e)) (λ x. meant_type file order is (meant x)) (λ x. whole_seen file order is p (meant x)) (λ x. jani_seen j (meant x))
      (subst (AllNames (λ x. jani_seen j (meant (new x)) ≡ whole_seen file order is p (meant x))) (sym (whole_filed file order is e))
      (names_renamed _ filed_name (plain.whole file e) (names_then IsLeft _ (λ x l. name_same file order is written_out p j match x l.free l.known) (plain.whole file e) (names_left e f))))
      (subst (AllNames (λ x. IsNoNumberOf (meant_type file order is (meant x)) (whole_seen file order is p (meant x)).value)) (sym (whole_filed file order is e))
      (names_renamed _ filed_name (plain.whole file e) (names_then IsLeft _ (λ x l. name_truth file order is agreeing p typed x l.free) (plain.whole file e) (names_left e f))))
      (subst (λ t. IsTrue (is_some t)) (sym (whole_typed file order is e)) f.typed) in
      ap (λ s. s.value) (sym (whole_seen_alike file order is p e)) ∙ ap (λ s. s.value) (sym law)

-- ---- properties that are written
module _ (file : File) where
  fine_names : (e : Expression) → flat_map (unless_known (is_known file)) (names_of e) ≡ [] → AllNames (λ x. is_known file x ≡ true) e
  fine_names e k =
      listed_names (λ x. is_known file x ≡ true) e
      (each_then (λ n. unless_known (is_known file) n ≡ []) (λ n. is_known file n.name ≡ true)
      (λ (n : Named) h. not-false (is_known file n.name) (no_fault (not (is_known file n.name)) n.at Unknown h)) (names_of e)
      (empty_each (unless_known (is_known file)) (names_of e) k))

  pub fine_type : (r : Role) (e : Expression) → type_faults_of file r e ≡ [] → IsTrue (is_some (type_in prism_meaning (name_types file) e))
  fine_type r e k =
      let m = append_parts (map (λ at. fault at WrongType) (misfits prism_meaning (name_types file) e)) _ k in
      (misfits_none prism_meaning (name_types file) e).0 (empty_map (λ at. fault at WrongType) (misfits prism_meaning (name_types file) e) m.0)

  pub fine : (order : List Name) (is : IsJudged file order) (w : IsWrittenOut (flat file)) (s : TypedImageSeenAlike) (a : AgreeingIsNoNumber) (x : Role × Expression) →
      unknown_in file x ≡ [] → part_faults file x ≡ [] → IsFine file order is w s a x.1
  fine order is w s a x k t = record { known = fine_names x.1 k; typed = fine_type x.0 x.1 (append_parts (type_faults_of file x.0 x.1) _ t).0 }

-- ---- part by part
module _ {E F R : Type 0} (Same : E → F → Type 0) (f : E → F) where
  asks_agree : (a : Ask E R) → Each (λ (x : Role × E). Same x.1 (f x.1)) (ask_parts a) → SameAsk Same a (ask_with f (λ i. i) a)
  asks_agree greatest h = tt
  asks_agree least h = tt
  asks_agree (bounded c e) h = (refl, h.0)
  asks_agree (greatest_reward r) h = refl
  asks_agree (least_reward r) h = refl

module _ {E F : Type 0} (Same : E → F → Type 0) (f : E → F) where
  paths_agree : (p : Path E) → Each (λ (x : Role × E). Same x.1 (f x.1)) (path_parts p) → SamePath Same p (path_with f p)
  paths_agree (finally e) h = h.0
  paths_agree (globally e) h = h.0
  paths_agree (until a b) h = (h.0, h.1.0)
  paths_agree (weak_until a b) h = (h.0, h.1.0)
  paths_agree (finally_within k e) h = (h.0, h.1.0)
  paths_agree (until_within k a b) h = (h.0, h.1.0, h.1.1.0)

-- ---- all properties
module _ (file : File) where
  abbrev pub HasSame : Expression → Type 0
  HasSame e = SameValue file (naming (flat file)) e (translated_expression file e)

  property_agrees : (p : PrismProperty) (e : Entry) → Each (λ x. HasSame x.1) (parts p) → Agree file (naming (flat file)) p (translated_property file p e)
  property_agrees p e h =
      let r = each_parts (λ x. HasSame x.1) (ask_parts p.ask) (path_parts p.path) h in
      record {
        ask = asks_agree (SameValue file (naming (flat file))) (translated_expression file) p.ask r.0;
        path = paths_agree (SameValue file (naming (flat file))) (translated_expression file) p.path r.1;
      }

  all_agree : (ps : List PrismProperty) (es : List Entry) → length es ≡ length ps → Each (λ p. Each (λ x. HasSame x.1) (parts p)) ps →
      AllAgree file (naming (flat file)) ps (map (λ q. translated_property file q.0 q.1) (zip ps es))
  all_agree [] es l h = tt
  all_agree (p ∷ ps) [] l h = absurd (omega (arith, l))
  all_agree (p ∷ ps) (e ∷ es) l h = (property_agrees p e h.0, all_agree ps es (omega (arith, l)) h.1)

  -- there is an entry for each property
  pub entries_each : OneEach → (ps : List PrismProperty) → length (property_entries (flat file) ps) ≡ length ps
  entries_each one ps =
      let a = one Jani (asks (flat file) ++ property_asks ps) in
      let b = length-append (asks (flat file)) (property_asks ps) in
      let of : PrismProperty → Wanted = λ p. (OfProperty, p.name) in
      let d = length-map ps of in
      length-drop (length (asks (flat file))) (entries_of Jani (asks (flat file) ++ property_asks ps)) ∙ omega (arith, a, b, d)

-- what holds of the parts of written properties, filed, holds of those of the filed properties
pub filed_parts : (file : File) (P : Expression → Type 0) (ws : List WrittenProperty) → Each (λ w. Each (λ x. P (renamed filed_name x.1)) (parts w)) ws →
    Each (λ p. Each (λ x. P x.1) (parts p)) (map (filed file) ws)
filed_parts file P [] h = tt
filed_parts file P (w ∷ ws) h = (parts_with P (renamed filed_name) (number_of file) w.ask w.path h.0, filed_parts file P ws h.1)

-- what holds of each part in which the phases find nothing holds of the parts of written properties
pub sound_each : (file : File) (P : Role × Expression → Type 0) → ((x : Role × Expression) → unknown_in file x ≡ [] → part_faults file x ≡ [] → P x) → (ps : List PrismProperty) (sound : AreSound file ps) →
    Each (λ w. Each P (parts w)) sound.written
sound_each file P h ps sound =
    let names = append_parts (doubled TwiceNamed (titles sound.written)) _ sound.names in
    let unknown = append_parts (flat_map (unknown_structure file) (structures sound.written)) (flat_map (unknown_in file) (all_parts sound.written)) names.1 in
    each_of P parts sound.written
    (each_with (λ x. unknown_in file x ≡ []) (λ x. part_faults file x ≡ []) P h
    (all_parts sound.written) (empty_each (unknown_in file) (all_parts sound.written) unknown.1) (empty_each (part_faults file) (all_parts sound.written) sound.types))

-- so it is of the parts of the filed properties
pub sound_parts : (file : File) (P : Expression → Type 0) → ((x : Role × Expression) → unknown_in file x ≡ [] → part_faults file x ≡ [] → P (renamed filed_name x.1)) →
    (ps : List PrismProperty) → AreSound file ps → Each (λ p. Each (λ x. P x.1) (parts p)) ps
sound_parts file P h ps sound =
    subst (λ qs. Each (λ p. Each (λ x. P x.1) (parts p)) qs) sound.are (filed_parts file P sound.written (sound_each file (λ x. P (renamed filed_name x.1)) h ps sound))

pub translated_agree : OneEach → TypedImageSeenAlike → AgreeingIsNoNumber → TranslatedAgree
translated_agree one image_seen agreeing c checked ps sound =
    let file : File = c.file in
    let order = formula_names (at_places file.formulas c.order) in
    let is = judged c checked in
    all_agree file ps (property_entries (flat file) ps) (entries_each file one ps)
    (sound_parts file (HasSame file)
    (λ x k t. value_same file order is (is_written_out file) image_seen agreeing x.1 (fine file order is (is_written_out file) image_seen agreeing x k t)) ps sound)
