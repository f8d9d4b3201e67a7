-- The table of new names: what stands under each old name.
use Rattle.std.proofs.Common.{◌≡◌, ℕ, ◌+◌, ◌<◌, ◌≤◌, refl, sym, ap, ap₂, ◌∙◌, arith, Bool, true, false, List, [], ◌∷◌, map, length, take, drop, get_or, cond, min, Option, Some, None}
use Rattle.std.specs.Prelude.{if◌then◌else◌, nat_le, bytes_eq, unwrap_or}
use Rattle.std.specs.Borrow.{Bor}
use Rattle.std.specs.Str.{is_utf8}
use Rattle.std.proofs.lemmas.List.{at_drop_more, drop_all, drop-drop, drop-map}
use Rattle.std.proofs.lemmas.Str.{IsUtf8-from_ascii, is_utf8-from_IsUtf8}
use Rattle.basics.specs.Texts.{bytes_eq-true}
use Rattle.prism_lex.specs.Tokens.{is_name}
use Rattle.prism_lex.proofs.NameTexts.{name_ascii}
use Rattle.prism_tree.specs.Syntax.{Label, File}
use Rattle.prism_tree.specs.Grammar.{unquoted}
use Rattle.std.specs.List.{AllByRecursion as Each}
use Rattle.prism_print.specs.Printable.{IsPrintableLabel}
use Rattle.std.specs.Option.{option_map, option_or as or_else}
use Rattle.gathering.proofs.Found.{first_more}
use Rattle.name_table.specs.declared.entry.Entry.{Entry}
use Rattle.name_table.specs.Asks.{variables, value_names, entries, labels_at, new_name, new_names}
use Rattle.prop_grammar.specs.Grammar.{has_quotes}
use Rattle.prop_trees.specs.Trees.{Name}
use Rattle.prop_trees.specs.Names.{marked, Meant, of_model, is_initial, is_deadlock, nothing, meant}
use Rattle.prop_to_jani.specs.declared.names.PropertyNames.{PropertyNames}
use Rattle.prop_to_jani.specs.ToJani.{label_names, new_model_name, new_meant, new_property_name}
use Rattle.prop_to_jani.specs.Code.{found, new_in, label_in, model_in, meant_in, name_in}

-- ---- one name more

or_none : (o : Option Name) → o ≡ or_else o None
or_none None = refl
or_none (Some x) = refl

not_found : (olds : List Name) (x : Name) → found olds [] x ≡ None
not_found [] x = refl
not_found (y ∷ ys) x = refl

pub found_all : (olds : List (Bor Name)) (news : List Name) (total : Option Name) (n i : ℕ) (got : Option Name) (x : Name) → n ≡ min (length olds) (length news) → n ≤ i →
    or_else got (found (map (λ z. z.now) (drop i olds)) (drop i news) x) ≡ total → got ≡ total
found_all olds news total n i got x m h so_far = or_none got ∙ sym (ap (or_else got) (rest _ refl)) ∙ so_far
  where
    rest : (b : Bool) → b ≡ nat_le (length olds) (length news) → found (map (λ z. z.now) (drop i olds)) (drop i news) x ≡ None
    rest true b = ap (λ (l : List (Bor Name)). found (map (λ z. z.now) l) (drop i news) x) (drop_all i olds (grind arith))
    rest false b = ap (λ (l : List Name). found (map (λ z. z.now) (drop i olds)) l x) (drop_all i news (grind arith)) ∙ not_found _ x

pub found_more : (olds : List (Bor Name)) (news : List Name) (i : ℕ) (y : Bor Name) (n name : Name) (v : Bor Name) (old new : Option (Bor Name)) (whole : Option Name) (x : Name) →
    i < length olds → i < length news → y ≡ get_or olds i y → n ≡ get_or news i n →
    new ≡ or_else old (if bytes_eq name x then Some v else None) → name ≡ y.now → v.now ≡ n →
    or_else (option_map (λ k. k.now) old) (found (map (λ k. k.now) (drop i olds)) (drop i news) x) ≡ whole →
    or_else (option_map (λ k. k.now) new) (found (map (λ k. k.now) (drop (i + 1) olds)) (drop (i + 1) news) x) ≡ whole
found_more olds news i y n name v old new whole x h l is there put called same so_far =
    let rest = found (map (λ k. k.now) (drop (i + 1) olds)) (drop (i + 1) news) x in
    let F : List (Bor Name) → List Name → Option Name = λ ys ns. or_else (option_map (λ k. k.now) old) (found (map (λ k. k.now) ys) ns x) in
    ap (λ o. or_else (option_map (λ k. k.now) o) rest) put
    ∙ first_more (λ k. k.now) old (bytes_eq name x) v rest
    ∙ ap₂ (λ (m : Name) (k : Name). or_else (option_map (λ k. k.now) old) (cond (bytes_eq m x) (Some k) rest)) (called ∙ ap (λ (k : Bor Name). k.now) is) (same ∙ there)
    ∙ sym (at_drop_more (λ ns. F (get_or olds i y ∷ drop (i + 1) olds) ns) news i n l)
    ∙ sym (at_drop_more (λ ys. F ys (drop i news)) olds i y h)
    ∙ so_far

-- ---- what is found is the marked name of the entry
found_marked : (ys : List Name) (es : List Entry) (x : Name) → unwrap_or (found ys (map (λ e. marked e.name) es) x) (marked []) ≡ marked (new_name ys es x)
found_marked [] es x = refl
found_marked (y ∷ ys) [] x = refl
found_marked (y ∷ ys) (e ∷ es) x = by_test (bytes_eq y x) (found_marked ys es x)
  where
    by_test : (b : Bool) → unwrap_or (found ys (map (λ u. marked u.name) es) x) (marked []) ≡ marked (new_name ys es x) →
        unwrap_or (if b then Some (marked e.name) else found ys (map (λ u. marked u.name) es) x) (marked []) ≡ marked (if b then e.name else new_name ys es x)
    by_test true h = refl
    by_test false h = h

-- entries behind those of the names are not looked at
name_taken : {A : Type 0} (f : A → Name) (xs : List A) (es : List Entry) (x : Name) → new_name (map f xs) (take (length xs) es) x ≡ new_name (map f xs) es x
name_taken f [] es x = refl
name_taken f (y ∷ ys) [] x = refl
name_taken f (y ∷ ys) (e ∷ es) x = ap (λ n. if bytes_eq (f y) x then e.name else n) (name_taken f ys es x)

-- ---- labels are texts
name_utf8 : (x : Name) → is_name x ≡ true → is_utf8 x ≡ true
name_utf8 x h = is_utf8-from_IsUtf8 x (IsUtf8-from_ascii x (name_ascii x h))

no_label : (ls : List Label) (es : List Entry) (x : Name) → Each IsPrintableLabel ls → is_utf8 x ≡ false → new_name (map (λ l. l.name.name) ls) es x ≡ []
no_label [] es x h u = refl
no_label (l ∷ ls) [] x h u = refl
no_label (l ∷ ls) (e ∷ es) x h u = by_test (bytes_eq l.name.name x) refl (no_label ls es x h.1 u)
  where
    by_test : (b : Bool) → bytes_eq l.name.name x ≡ b → new_name (map (λ k. k.name.name) ls) es x ≡ [] → (if b then e.name else new_name (map (λ k. k.name.name) ls) es x) ≡ []
    by_test true t r = absurd (let same : is_utf8 l.name.name ≡ is_utf8 x = ap is_utf8 (bytes_eq-true l.name.name x t) in let yes : true ≡ false = sym (name_utf8 l.name.name h.0.0) ∙ same ∙ u in cc)
    by_test false t r = r

-- ---- all names
module _ (file : File) (n : PropertyNames) (labels : Each IsPrintableLabel file.labels)
    (values_are : (x : Name) → new_in n.values x ≡ found (value_names file) (map (λ e. marked e.name) (entries file)) x)
    (labels_are : (x : Name) → new_in n.labels x ≡ found (label_names file) (drop (length (variables file)) (drop (length file.constants) (map (λ e. marked e.name) (entries file)))) x) where
  behind : List Entry
  behind = drop (labels_at file (entries file)) (entries file)

  marked_behind : drop (length (variables file)) (drop (length file.constants) (map (λ e. marked e.name) (entries file))) ≡ map (λ e. marked e.name) behind
  unfolding behind
  marked_behind =
      drop-drop (length (variables file)) (length file.constants) (map (λ e. marked e.name) (entries file))
      ∙ drop-map (λ (e : Entry). marked e.name) (labels_at file (entries file)) (entries file)

  label_is : (z : Name) → unwrap_or (label_in n z) (marked []) ≡ marked (new_name (label_names file) (new_names file).labels z)
  unfolding behind
  label_is z = by_test (is_utf8 z) refl
    where
      by_test : (b : Bool) → is_utf8 z ≡ b → unwrap_or (if b then new_in n.labels z else None) (marked []) ≡ marked (new_name (label_names file) (new_names file).labels z)
      by_test true u =
          ap (λ o. unwrap_or o (marked [])) (labels_are z ∙ ap (λ news. found (label_names file) news z) marked_behind)
          ∙ found_marked (label_names file) behind z
          ∙ ap marked (sym (name_taken (λ l. l.name.name) file.labels behind z))
      by_test false u = ap marked (sym (name_taken (λ l. l.name.name) file.labels behind z ∙ no_label file.labels behind z labels u))

  model_is : (y : Name) → model_in n y ≡ marked (new_model_name file y)
  model_is y = by_quotes (has_quotes y)
    where
      by_quotes : (b : Bool) → unwrap_or (if b then label_in n (unquoted y) else new_in n.values y) (marked [])
          ≡ marked (if b then new_name (label_names file) (new_names file).labels (unquoted y) else (new_names file).value y)
      by_quotes true = label_is (unquoted y)
      by_quotes false = ap (λ o. unwrap_or o (marked [])) (values_are y) ∙ found_marked (value_names file) (entries file) y

  meant_is : (x : Name) (m : Meant) → meant_in n x m ≡ new_meant file x m
  meant_is x (of_model y) = model_is y
  meant_is x is_initial = refl
  meant_is x is_deadlock = refl
  meant_is x nothing = refl

  pub names_are : (x : Name) → name_in n x ≡ new_property_name file x
  names_are x = meant_is x (meant x)
