-- The lines before a translated file are comments: each begins with // and has no line feed.
use Rattle.std.proofs.Common.{◌≡◌, ℕ, ◌+◌, ◌≤◌, Bool, true, false, cond, List, [], ◌∷◌, ◌++◌, map, Option, Some, None, refl, subst, ◌∙◌, arith}
use Rattle.std.specs.Prelude.{zero, suc, codes, not, ◌&&◌, ◌||◌, ◌==◌, ◌/◌, ◌%◌, nat_eq, nat_lt}
use Rattle.std.specs.List.{flat_map, list_all, AllByRecursion as Each}
use Rattle.std.specs.Prelude.{length, drop}
use Rattle.std.proofs.lemmas.Bool.Decides.{nat_tests}
use Rattle.std.proofs.lemmas.List.Folds.{list_all-append}
use Rattle.basics.specs.Each.{each_take, each_drop, each_join}
use Rattle.decimal_json.specs.Text.{hex_digit, escaped_byte, escaped, quoted}
use Rattle.prism_lex.specs.Automaton.{is_letter, is_digit}
use Rattle.prism_lex.specs.Gaps.{has_no_lf}
use Rattle.prism_lex.specs.Tokens.{is_name}
use Rattle.process_core.specs.Ready.{Name}
use Rattle.process_core.specs.Instance.{only_if}
use Rattle.prism_print.specs.Comments.{IsComment}
use Rattle.bridge_io.specs.declared.reason.Named.{Named}
use Rattle.jani_tree.specs.Syntax.{Const, Location, File, element_names}
use Rattle.jani_meaning.specs.Elements.{lasting, labels, structures}
use Rattle.prism_translation.specs.Entry.{Entry}
use Rattle.prism_translation.specs.Asks.{some_from}
use Rattle.prism_translation.specs.PrismAsks.{NewNames, name_at, locations_at, modules_at, labels_at, rewards_at, actions_at}
use Rattle.prism_translation.specs.Elements.{Element, elements, has_several}
use Rattle.prism_translation.specs.Lines.{space, old_text, name_line, name_lines, joined, location_line, called}
use Rattle.prism_translation.specs.Names.{all_asks, entries, new_names}
use Rattle.prism_translation.specs.Targets.{targets, old_name}
use Rattle.prism_translation_laws.specs.NameLaws.{LinesAreComments}
use Rattle.prism_translation_laws.proofs.Entries.{IsValidName, all_valid}

-- ---- bytes without a line feed
abbrev OneLine : List ℕ → Type 0
OneLine x = has_no_lf x ≡ true

both : (xs ys : List ℕ) → OneLine xs → OneLine ys → OneLine (xs ++ ys)
both xs ys h k = list_all-append (λ b. not (b == 10)) xs ys ∙ rw (h, k) refl

later : (b : ℕ) → 11 ≤ b → not (b == 10) ≡ true
later b h = grind (arith, nat_tests)

-- ---- strings
hex_line : (n : ℕ) → not (hex_digit n == 10) ≡ true
hex_line n = go (nat_lt n 10)
  where
    go : (t : Bool) → not (cond t (48 + n) (87 + n) == 10) ≡ true
    go true = later (48 + n) (omega arith)
    go false = later (87 + n) (omega arith)

byte_line : (c : ℕ) → OneLine (escaped_byte c)
byte_line c = go (nat_eq c 34) (nat_eq c 92) (nat_eq c 8) (nat_eq c 12) (nat_eq c 10) (nat_eq c 13) (nat_eq c 9) (nat_lt c 32) refl
  where
    go : (a b d e f g h l : Bool) → nat_lt c 32 ≡ l →
        OneLine (cond a (92 ∷ 34 ∷ []) (cond b (92 ∷ 92 ∷ []) (cond d (codes "\\b") (cond e (codes "\\f") (cond f (codes "\\n") (cond g (codes "\\r") (cond h (codes "\\t")
        (cond l (codes "\\u00" ++ (hex_digit (c / 16) ∷ hex_digit (c % 16) ∷ [])) (c ∷ [])))))))))
    go true b d e f g h l k = refl
    go false true d e f g h l k = refl
    go false false true e f g h l k = refl
    go false false false true f g h l k = refl
    go false false false false true g h l k = refl
    go false false false false false true h l k = refl
    go false false false false false false true l k = refl
    go false false false false false false false true k = rw (hex_line (c / 16), hex_line (c % 16)) refl
    go false false false false false false false false k = let n = later c (grind (arith, nat_tests)) in rw n refl

escaped_line : (s : List ℕ) → OneLine (escaped s)
escaped_line [] = refl
escaped_line (c ∷ s) = both (escaped_byte c) (escaped s) (byte_line c) (escaped_line s)

quoted_line : (s : List ℕ) → OneLine (quoted s)
quoted_line s = both (escaped s) (0x22 ∷ []) (escaped_line s) refl

old_line : (o : Option Name) → OneLine (old_text o)
old_line None = refl
old_line (Some x) = quoted_line x

-- ---- names
is_ten : (b : ℕ) → (b == 10) ≡ true → b ≡ 10
is_ten b h = grind (arith, nat_tests)

no_ten : (p : ℕ → Bool) (b : ℕ) → p 10 ≡ false → p b ≡ true → not (b == 10) ≡ true
no_ten p b none h = go (b == 10) refl
  where
    go : (t : Bool) → (b == 10) ≡ t → not t ≡ true
    go true e = let F : ℕ → Type 0 = λ n. p n ≡ true in let k = subst F (is_ten b e) h in absurd cc
    go false e = refl

tail_line : (bs : List ℕ) → list_all (λ c. is_letter c || is_digit c) bs ≡ true → OneLine bs
tail_line [] h = refl
tail_line (b ∷ bs) h = go (is_letter b || is_digit b) refl h (tail_line bs)
  where
    go : (t : Bool) → (is_letter b || is_digit b) ≡ t → (t && list_all (λ c. is_letter c || is_digit c) bs) ≡ true → (list_all (λ c. is_letter c || is_digit c) bs ≡ true → OneLine bs) → OneLine (b ∷ bs)
    go false e k r = absurd cc
    go true e k r = let n = no_ten (λ c. is_letter c || is_digit c) b refl e in let m = r k in rw (n, m) refl

word_line : (x : List ℕ) → is_name x ≡ true → OneLine x
word_line [] h = refl
word_line (b ∷ bs) h = go (is_letter b) refl h
  where
    go : (t : Bool) → is_letter b ≡ t → (t && list_all (λ c. is_letter c || is_digit c) bs) ≡ true → OneLine (b ∷ bs)
    go false e k = absurd cc
    go true e k = let n = no_ten is_letter b refl e in let m = tail_line bs k in rw (n, m) refl

at_line : (es : List Entry) (i : ℕ) → Each IsValidName es → OneLine (name_at es i)
at_line [] i h = refl
at_line (e ∷ es) zero h = word_line e.name h.0.spelled.0
at_line (e ∷ es) (suc i) h = at_line es i h.1

-- ---- lines
a_name : (what : List ℕ) (e : Entry) (old : Option Name) → OneLine what → IsValidName e → Each IsComment (name_line what e old)
a_name what e old h k = go (not e.kept)
  where
    whole : List ℕ
    whole = what ++ (space ++ (e.name ++ (space ++ old_text old)))

    whole_line : OneLine (32 ∷ whole)
    whole_line =
        both what (space ++ (e.name ++ (space ++ old_text old))) h
        (both space (e.name ++ (space ++ old_text old)) refl (both e.name (space ++ old_text old) (word_line e.name k.spelled.0) (both space (old_text old) refl (old_line old))))

    go : (b : Bool) → Each IsComment (only_if b (codes "// " ++ whole))
    go true = (record { text = 32 ∷ whole; begins = refl; one_line = whole_line }, tt)
    go false = tt

names_each : (what : List ℕ) (es : List Entry) (olds : List (Option Name)) → OneLine what → Each IsValidName es → Each IsComment (name_lines what es olds)
names_each what [] olds h k = tt
names_each what (e ∷ es) [] h k = tt
names_each what (e ∷ es) (o ∷ os) h k = each_join IsComment (name_line what e o) (name_lines what es os) (a_name what e o h k.0) (names_each what es os h k.1)

joined_line : (xs : List (List ℕ)) → Each OneLine xs → OneLine (joined xs)
joined_line [] h = refl
joined_line (x ∷ []) h = h.0
joined_line (x ∷ y ∷ ys) h = both x (codes "," ++ joined (y ∷ ys)) h.0 (both (codes ",") (joined (y ∷ ys)) refl (joined_line (y ∷ ys) h.1))

quoted_each : (ls : List Location) → Each OneLine (map (λ l. quoted l.name.name) ls)
quoted_each [] = tt
quoted_each (l ∷ ls) = (quoted_line l.name.name, quoted_each ls)

a_location : (names : NewNames) (el : Element) → Each IsValidName names.locations → Each IsComment (location_line names el)
a_location names el h = go (has_several el)
  where
    name : List ℕ
    name = name_at names.locations el.number

    list : List ℕ
    list = joined (map (λ l. quoted l.name.name) el.automaton.locations)

    whole : List ℕ
    whole = name ++ (space ++ (codes "[" ++ (list ++ codes "]")))

    whole_line : OneLine (codes " location " ++ whole)
    whole_line =
        both name (space ++ (codes "[" ++ (list ++ codes "]"))) (at_line names.locations el.number h)
        (both space (codes "[" ++ (list ++ codes "]")) refl (both (codes "[") (list ++ codes "]") refl (both list (codes "]") (joined_line _ (quoted_each el.automaton.locations)) refl)))

    go : (b : Bool) → Each IsComment (only_if b (codes "// location " ++ whole))
    go true = (record { text = codes " location " ++ whole; begins = refl; one_line = whole_line }, tt)
    go false = tt

locations_each : (names : NewNames) (els : List Element) → Each IsValidName names.locations → Each IsComment (flat_map (location_line names) els)
locations_each names [] h = tt
locations_each names (el ∷ els) h = each_join IsComment (location_line names el) (flat_map (location_line names) els) (a_location names el h) (locations_each names els h)

pub lines_are_comments : (file : File) → LinesAreComments file
lines_are_comments file =
    let names = new_names file in
    let valid : Each IsValidName (entries file) = all_valid (all_asks file) in
    let segment : (at n : ℕ) → Each IsValidName (some_from at n (entries file)) = λ at n. each_take IsValidName n (drop at (entries file)) (each_drop IsValidName at (entries file) valid) in
    let constants = map (λ (c : Const). Some c.name.name) file.constants in
    let modules = map (λ (n : Named). Some n.name) (element_names file) in
    each_join IsComment (name_lines (codes "constant") names.constants constants) _
    (names_each (codes "constant") names.constants constants refl (segment 0 (length file.constants)))
    (each_join IsComment (name_lines (codes "variable") names.variables (map called (lasting file))) _
    (names_each (codes "variable") names.variables (map called (lasting file)) refl (segment (length file.constants) (length (lasting file))))
    (each_join IsComment (flat_map (location_line names) (elements file)) _
    (locations_each names (elements file) (segment (locations_at file) (length (element_names file))))
    (each_join IsComment (name_lines (codes "module") names.modules modules) _
    (names_each (codes "module") names.modules modules refl (segment (modules_at file) (length (element_names file))))
    (each_join IsComment (name_lines (codes "action") names.actions (map old_name (targets file))) _
    (names_each (codes "action") names.actions (map old_name (targets file)) refl (each_drop IsValidName (actions_at file) (entries file) valid))
    (each_join IsComment (name_lines (codes "label") names.labels (map called (labels file))) _
    (names_each (codes "label") names.labels (map called (labels file)) refl (segment (labels_at file) (length (labels file))))
    (names_each (codes "reward") names.rewards (map called (structures file)) refl (segment (rewards_at file) (length (structures file)))))))))
