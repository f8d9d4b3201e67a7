-- The constants of a file and of its translation go together, and what is given for them corresponds.
use Rattle.std.proofs.Common.{◌≡◌, List, [], ◌∷◌, ◌++◌, map, length, suc, Bool, true, false, Option, Some, None, is_none, bytes_eq, refl, sym, ap, ap₂, ◌∙◌, subst, subst₂, arith}
use Rattle.std.specs.List.{AllZip, AllByRecursion as Each, IsDistinct, zip}
use Rattle.std.specs.Option.{option_map}
use Rattle.std.proofs.lemmas.List.{map-append}
use Rattle.basics.specs.Lists.{append_parts}
use Rattle.bridge_io.specs.declared.reason.Named.{Named}
use Rattle.bridge_io.specs.declared.reason.Reason.TheVariants.{TwiceNamed}
use Rattle.op_trees.specs.declared.tree.Ty.{Ty}
use Rattle.op_trees.specs.Types.{AgreesWith}
use Rattle.process_core.specs.Ready.{Name}
use Rattle.instance_start.specs.Description.{Constant}
use Rattle.name_rules.specs.Doubled.{doubled}
use Rattle.name_table.specs.declared.entry.Entry.{Entry}
use Rattle.name_table.specs.Correspond.{GivenAlike}
use Rattle.prism_tree.specs.Syntax as prism
use Rattle.prism_names.specs.Flat.{flat}
use Rattle.prism_print.specs.Same as prism_places
use Rattle.prism_check.specs.NameFaults as prism_names
use Rattle.prism_instance.specs.Described.{opened, DescribedAlike}
use Rattle.jani_tree.specs.Syntax as jani
use Rattle.jani_tree.specs.Places as jani_places
use Rattle.jani_check.specs.NameFaults as jani_names
use Rattle.jani_translation.specs.Laws.{ConstantTypes, ConstantValues}
use Rattle.jani_translation.specs.Translated as to_jani
use Rattle.jani_translation.proofs.Clean.{distinct_from}
use Rattle.prism_translation.specs.Names.{new_names}
use Rattle.prism_translation.specs.Parts.{constant}
use Rattle.prism_translation.specs.Translated as to_prism
use Rattle.prism_translation.proofs.NamesAlike.{constants_long}
use Rattle.model_carrying.specs.Values.{AreLike, names, AreGivenAlike}
use Rattle.model_carrying.specs.Together.{TogetherInJani, TogetherInPrism, GivenCorrespond, GivenCorrespondBack}
use Rattle.basics.specs.Options.{is_none-map}

abbrev jani_opened : jani.Const → Constant
jani_opened c = record { name = c.name.name; ty = c.ty; is_open = is_none c.value }

-- ---- names stand once
front_each : (P : Name → Type 0) (xs ys : List Name) → Each P (xs ++ ys) → Each P xs
front_each P [] ys h = tt
front_each P (x ∷ xs) ys h = (h.0, front_each P xs ys h.1)

front_distinct : (xs ys : List Name) → IsDistinct bytes_eq (xs ++ ys) → IsDistinct bytes_eq xs
unfolding IsDistinct
front_distinct [] ys d = tt
front_distinct (x ∷ xs) ys d = (front_each (λ y. bytes_eq x y ≡ false) xs ys d.0, front_distinct xs ys d.1)

first_distinct : (ns ms : List Named) → doubled TwiceNamed (ns ++ ms) ≡ [] → IsDistinct bytes_eq (map (λ n. n.name) ns)
first_distinct ns ms e =
    front_distinct (map (λ n. n.name) ns) (map (λ n. n.name) ms) (subst (IsDistinct bytes_eq) (map-append (λ n. n.name) ns ms) (distinct_from TwiceNamed [] (ns ++ ms) e))

prism_named : (cs : List prism.Const) → map (λ n. n.name) (map (λ c. c.name) cs) ≡ names (map opened cs)
prism_named [] = refl
prism_named (c ∷ cs) = ap (λ r. c.name.name ∷ r) (prism_named cs)

jani_named : (cs : List jani.Const) → map (λ n. n.name) (map (λ c. c.name) cs) ≡ names (map jani_opened cs)
jani_named [] = refl
jani_named (c ∷ cs) = ap (λ r. c.name.name ∷ r) (jani_named cs)

prism_distinct : (file : prism.File) → prism_names.name_faults file ≡ [] → IsDistinct bytes_eq (names (map opened file.constants))
prism_distinct file h =
    subst (IsDistinct bytes_eq) (prism_named file.constants)
    (first_distinct (map (λ c. c.name) file.constants) _ (append_parts (doubled TwiceNamed (prism_names.values file)) _ (append_parts (prism_names.doubled_names file) _ h).0).0)

jani_distinct : (file : jani.File) → jani_names.name_faults file ≡ [] → IsDistinct bytes_eq (names (map jani_opened file.constants))
jani_distinct file h =
    subst (IsDistinct bytes_eq) (jani_named file.constants)
    (first_distinct (map (λ c. c.name) file.constants) _ (append_parts (doubled TwiceNamed (jani_names.global_names file)) _ (append_parts (jani_names.doubled_names file) _ h).0).0)

-- ---- types, and which are open
abbrev prism_types : List prism.Const → List Ty
prism_types cs = map (λ c. c.ty) cs

abbrev prism_opens : List prism.Const → List Bool
prism_opens cs = map (λ c. is_none c.value) cs

abbrev jani_types : List jani.Const → List Ty
jani_types cs = map (λ c. c.ty) cs

abbrev jani_opens : List jani.Const → List Bool
jani_opens cs = map (λ c. is_none c.value) cs

jani_bare_types : (cs : List jani.Const) → jani_types (map jani_places.bare_const cs) ≡ jani_types cs
jani_bare_types [] = refl
jani_bare_types (c ∷ cs) = ap (λ r. c.ty ∷ r) (jani_bare_types cs)

jani_bare_opens : (cs : List jani.Const) → jani_opens (map jani_places.bare_const cs) ≡ jani_opens cs
jani_bare_opens [] = refl
jani_bare_opens (c ∷ cs) = ap₂ (λ b r. b ∷ r) (is_none-map _ c.value) (jani_bare_opens cs)

prism_bare_types : (cs : List prism.Const) → prism_types (map prism_places.bare_const cs) ≡ prism_types cs
prism_bare_types [] = refl
prism_bare_types (c ∷ cs) = ap (λ r. c.ty ∷ r) (prism_bare_types cs)

prism_bare_opens : (cs : List prism.Const) → prism_opens (map prism_places.bare_const cs) ≡ prism_opens cs
prism_bare_opens [] = refl
prism_bare_opens (c ∷ cs) = ap₂ (λ b r. b ∷ r) (is_none-map _ c.value) (prism_bare_opens cs)

jani_same : (f g : jani.File) → jani_places.bare_file f ≡ jani_places.bare_file g → (jani_types f.constants ≡ jani_types g.constants) × (jani_opens f.constants ≡ jani_opens g.constants)
jani_same f g e = (
  sym (jani_bare_types f.constants) ∙ ap (λ (x : jani.File). jani_types x.constants) e ∙ jani_bare_types g.constants,
  sym (jani_bare_opens f.constants) ∙ ap (λ (x : jani.File). jani_opens x.constants) e ∙ jani_bare_opens g.constants,
)

prism_same : (f g : prism.File) → prism_places.bare_file f ≡ prism_places.bare_file g → (prism_types f.constants ≡ prism_types g.constants) × (prism_opens f.constants ≡ prism_opens g.constants)
prism_same f g e = (
  sym (prism_bare_types f.constants) ∙ ap (λ (x : prism.File). prism_types x.constants) e ∙ prism_bare_types g.constants,
  sym (prism_bare_opens f.constants) ∙ ap (λ (x : prism.File). prism_opens x.constants) e ∙ prism_bare_opens g.constants,
)

-- ---- alike, place by place
alike : (cs : List prism.Const) (ds : List jani.Const) → prism_types cs ≡ jani_types ds → prism_opens cs ≡ jani_opens ds → AllZip AreLike (map opened cs) (map jani_opened ds)
alike [] [] e f = tt
alike [] (d ∷ ds) e f = absurd cc
alike (c ∷ cs) [] e f = absurd cc
alike (c ∷ cs) (d ∷ ds) e f = (
  record { types = (let h : c.ty ≡ d.ty = cc in h); opens = (let h : is_none c.value ≡ is_none d.value = cc in h) },
  alike cs ds (let h : prism_types cs ≡ jani_types ds = cc in h) (let h : prism_opens cs ≡ jani_opens ds = cc in h),
)

alike_back : (ds : List jani.Const) (cs : List prism.Const) → jani_types ds ≡ prism_types cs → jani_opens ds ≡ prism_opens cs → AllZip AreLike (map jani_opened ds) (map opened cs)
alike_back [] [] e f = tt
alike_back [] (c ∷ cs) e f = absurd cc
alike_back (d ∷ ds) [] e f = absurd cc
alike_back (d ∷ ds) (c ∷ cs) e f = (
  record { types = (let h : d.ty ≡ c.ty = cc in h); opens = (let h : is_none d.value ≡ is_none c.value = cc in h) },
  alike_back ds cs (let h : jani_types ds ≡ prism_types cs = cc in h) (let h : jani_opens ds ≡ prism_opens cs = cc in h),
)

-- ---- to JANI
value_opens : {A : Type 0} (ds : List jani.Const) (os : List (Option A)) (f : Option A → Option jani.Expression) → ((o : Option A) → is_none (f o) ≡ is_none o) → map (λ d. d.value) ds ≡ map f os → map is_none os ≡ jani_opens ds
value_opens [] [] f h e = refl
value_opens [] (o ∷ os) f h e = absurd cc
value_opens (d ∷ ds) [] f h e = absurd cc
value_opens (d ∷ ds) (o ∷ os) f h e =
    ap₂ (λ b r. b ∷ r) (sym (h o) ∙ ap is_none (sym (let k : d.value ≡ f o = cc in k))) (value_opens ds os f h (let k : map (λ x. x.value) ds ≡ map f os = cc in k))

opens_of : (cs : List prism.Const) → map is_none (map (λ c. c.value) cs) ≡ prism_opens cs
opens_of [] = refl
opens_of (c ∷ cs) = ap (λ r. is_none c.value ∷ r) (opens_of cs)

mapped_values : {B : Type 0} (g : Option prism.Expression → B) (cs : List prism.Const) → map g (map (λ c. c.value) cs) ≡ map (λ c. g c.value) cs
mapped_values g [] = refl
mapped_values g (c ∷ cs) = ap (λ r. g c.value ∷ r) (mapped_values g cs)

pub together_in_jani : DescribedAlike → ((file : prism.File) → ConstantTypes file) → ((file : prism.File) → ConstantValues file) → TogetherInJani
together_in_jani described types values old new a b e =
    let same = jani_same new (to_jani.translated (flat old)) e in
    let cs = (flat old).constants in
    let ts : prism_types cs ≡ jani_types new.constants = sym (same.0 ∙ types (flat old)) in
    let os : prism_opens cs ≡ jani_opens new.constants =
    sym (opens_of cs)
    ∙ value_opens (to_jani.translated (flat old)).constants (map (λ c. c.value) cs) (option_map _) (is_none-map _) (values (flat old) ∙ sym (mapped_values (option_map _) cs))
    ∙ sym same.1 in
    record {
      alike = subst (λ d. AllZip AreLike d (map jani_opened new.constants)) (ap (λ d. d.constants) (described (flat old) old refl)) (alike cs new.constants ts os);
      here = prism_distinct old a;
      there = jani_distinct new b;
    }

-- ---- to PRISM
module _ (file : jani.File) where
  abbrev made : jani.Const × Entry → prism.Const
  made p = constant file (new_names file) p.0 p.1.name

  made_types : (ds : List jani.Const) (es : List Entry) → length es ≡ length ds → prism_types (map made (zip ds es)) ≡ jani_types ds
  made_types [] es h = refl
  made_types (d ∷ ds) [] h = absurd (let no : 0 ≡ suc (length ds) = h in omega arith)
  made_types (d ∷ ds) (e ∷ es) h = ap (λ r. d.ty ∷ r) (made_types ds es (let k : suc (length es) ≡ suc (length ds) = h in omega arith))

  made_opens : (ds : List jani.Const) (es : List Entry) → length es ≡ length ds → prism_opens (map made (zip ds es)) ≡ jani_opens ds
  made_opens [] es h = refl
  made_opens (d ∷ ds) [] h = absurd (let no : 0 ≡ suc (length ds) = h in omega arith)
  made_opens (d ∷ ds) (e ∷ es) h = ap₂ (λ b r. b ∷ r) (is_none-map _ d.value) (made_opens ds es (let k : suc (length es) ≡ suc (length ds) = h in omega arith))

pub together_in_prism : TogetherInPrism
together_in_prism old new a b e =
    let same = prism_same new (to_prism.translated old) e in
    let long : length (new_names old).constants ≡ length old.constants = constants_long old (λ x. None) (λ x. None) in
    record {
      alike = alike_back old.constants new.constants (sym (same.0 ∙ made_types old old.constants (new_names old).constants long)) (sym (same.1 ∙ made_opens old old.constants (new_names old).constants long));
      here = jani_distinct old a;
      there = prism_distinct new b;
    }

-- ---- what is given
pub given_correspond : GivenCorrespond
given_correspond p j v w h = each p.constants j.constants h
  where
    each : (cs : List prism.Const) (ds : List jani.Const) → AllZip (AreGivenAlike v w) (map opened cs) (map jani_opened ds) → AllZip (GivenAlike v w) cs (map (λ d. d.name.name) ds)
    each [] [] h = tt
    each [] (d ∷ ds) h = absurd h
    each (c ∷ cs) [] h = absurd h
    each (c ∷ cs) (d ∷ ds) h = ((λ e. (h.0.typed (ap is_none e), h.0.same (ap is_none e))), each cs ds h.1)

pub given_correspond_back : GivenCorrespondBack
given_correspond_back p j v w t h = each p.constants j.constants t.alike h
  where
    each : (cs : List prism.Const) (ds : List jani.Const) → AllZip AreLike (map jani_opened ds) (map opened cs) → AllZip (AreGivenAlike w v) (map jani_opened ds) (map opened cs) → AllZip (GivenAlike v w) cs (map (λ d. d.name.name) ds)
    each [] [] a h = tt
    each [] (d ∷ ds) a h = absurd h
    each (c ∷ cs) [] a h = absurd h
    each (c ∷ cs) (d ∷ ds) a h = (
      (λ e. (let left : is_none d.value ≡ true = a.0.opens ∙ ap is_none e in (subst₂ (λ type o. AgreesWith (Some type) o) a.0.types (sym (h.0.same left)) (h.0.typed left), sym (h.0.same left)))),
      each cs ds a.1 h.1,
    )
