-- The names of a translated file's columns stand in one line.
use Rattle.std.specs.Prelude.{◌≡◌, ◌-◌, ℕ, zero, suc, List, [], ◌∷◌, ◌++◌, codes, drop, length, map, Bool, true, false, ◌||◌, if◌then◌else◌, nat_eq, nat_lt}
use Rattle.std.specs.List.{list_all, list_any, AllByRecursion as Each}
use Rattle.std.proofs.Common.{refl, sym, ap, ap₂, ◌∙◌, subst}
use Rattle.std.proofs.lemmas.Bool.{ne_eqb}
use Rattle.std.proofs.lemmas.List.Folds.{list_any-append}
use Rattle.basics.specs.Booleans.{first_true, second_true}
use Rattle.basics.specs.Each.{each_any, each_drop, each_take}
use Rattle.prism_lex.specs.Automaton.{is_letter, is_digit}
use Rattle.prism_lex.specs.Tokens.{is_name}
use Rattle.decimal_json.specs.Text.{behind_commas, with_commas}
use Rattle.process_core.specs.Instance.{Scene, Valuation}
use Rattle.process_core.specs.Ready.{Name}
use Rattle.process_texts.specs.Texts.{header_text}
use Rattle.prism_check.specs.PlacesLaws.{PlacesKeepScenes}
use Rattle.jani_tree.specs.Syntax.{File, element_names}
use Rattle.jani_meaning.specs.Elements.{lasting}
use Rattle.name_table.specs.declared.entry.Entry.{Entry}
use Rattle.name_table.specs.Asks.{some_from}
use Rattle.name_table.specs.PrismAsks.{locations_at, name_at}
use Rattle.prism_translation.specs.Names.{all_asks, entries, new_names}
use Rattle.prism_translation.specs.StateLaws.{columns}
use Rattle.prism_translation.specs.Translated.{translated}
use Rattle.prism_translation.proofs.ColumnNames.{name_of, names_of_columns}
use Rattle.prism_translation_laws.proofs.Entries.{IsValidName, all_valid}
use Rattle.jani_to_prism.specs.Maps.{HeaderIsLine, column_names}

abbrev OneLine : List ℕ → Type 0
OneLine x = list_any (nat_eq 10) x ≡ false

both : (xs ys : List ℕ) → OneLine xs → OneLine ys → OneLine (xs ++ ys)
both xs ys h k = list_any-append (nat_eq 10) xs ys ∙ ap₂ (λ a b. a || b) h k

-- ---- identifiers
no_feed : (p : ℕ → Bool) (b : ℕ) → p 10 ≡ false → p b ≡ true → nat_eq 10 b ≡ false
no_feed p b none h = ne_eqb 10 b (λ e. let z : true ≡ false = sym h ∙ ap p (sym e) ∙ none in cc)

rest_line : (bs : List ℕ) → list_all (λ c. is_letter c || is_digit c) bs ≡ true → OneLine bs
rest_line [] h = refl
rest_line (b ∷ bs) h =
    ap₂ (λ x y. x || y) (no_feed (λ c. is_letter c || is_digit c) b refl (first_true (is_letter b || is_digit b) _ h)) (rest_line bs (second_true (is_letter b || is_digit b) _ h))

name_line : (x : Name) → is_name x ≡ true → OneLine x
name_line [] h = refl
name_line (b ∷ bs) h = ap₂ (λ x y. x || y) (no_feed is_letter b refl (first_true (is_letter b) _ h)) (rest_line bs (second_true (is_letter b) _ h))

-- ---- with commas between them
behind_line : (xs : List Name) → Each OneLine xs → OneLine (behind_commas xs)
behind_line [] h = refl
behind_line (x ∷ xs) h = both x (behind_commas xs) h.0 (behind_line xs h.1)

commas_line : (xs : List Name) → Each OneLine xs → OneLine (with_commas xs)
commas_line [] h = refl
commas_line (x ∷ xs) h = both x (behind_commas xs) h.0 (behind_line xs h.1)

header_line : (xs : List Name) → Each OneLine xs → OneLine (header_text xs)
header_line xs h = both (with_commas xs) (codes ")") (commas_line xs h) refl

-- ---- the names of columns
entry_line : (es : List Entry) (i : ℕ) → Each IsValidName es → OneLine (name_at es i)
entry_line [] i h = refl
entry_line (e ∷ es) zero h = name_line e.name h.0.spelled.0
entry_line (e ∷ es) (suc i) h = entry_line es i h.1

module _ (file : File) (v : Valuation) where
  some_valid : (at n : ℕ) → Each IsValidName (some_from at n (entries file))
  some_valid at n = each_take IsValidName n (drop at (entries file)) (each_drop IsValidName at (entries file) (all_valid (all_asks file)))

  column_line : (j : ℕ) → OneLine (name_of file v j)
  column_line j = by_test (nat_lt j (length (element_names file)))
    where
      by_test : (b : Bool) → OneLine (if b then name_at (new_names file).locations j else name_at (new_names file).variables (j - length (element_names file)))
      by_test true = entry_line (new_names file).locations j (some_valid (locations_at file) (length (element_names file)))
      by_test false = entry_line (new_names file).variables (j - length (element_names file)) (some_valid (length file.constants) (length (lasting file)))

  columns_line : Each OneLine (column_names (translated file) v)
  columns_line = subst (Each OneLine) (sym (names_of_columns file v)) (each_any OneLine (name_of file v) column_line (columns file))

pub header_is_line : PlacesKeepScenes → HeaderIsLine
header_is_line scenes old new same v =
    header_line (column_names new v) (subst (λ (k : Scene). Each OneLine (map (λ c. c.name) k.columns)) (sym (scenes new (translated old) same v)) (columns_line old v))
