-- Formulas that stand in an order in which each names only earlier ones are counted right in one pass.
use Rattle.std.specs.Prelude.{ℕ, ◌<◌, ◌≤◌, ◌+◌, List, [], ◌∷◌, ◌++◌, length, drop, Bool, true, false, ◌||◌, Option, Some, None, bytes_eq, unwrap_or, if◌then◌else◌}
use Rattle.std.specs.List.{slice_get}
use Rattle.std.specs.Option.{option_map}
use Rattle.std.proofs.Common.{◌≡◌, refl, sym, ap, ◌∙◌, inl, inr, append_assoc, subst, get_or, arith}
use Rattle.std.proofs.lemmas.List.{at_drop_more, at_drop_all, length-map}
use Rattle.std.proofs.lemmas.List.Folds.{list_any-append}
use Rattle.std.proofs.lemmas.Option.{slice_get-map, slice_get_read}
use Rattle.std.proofs.lemmas.Slice.Eq.{bytes_eq-Decides}
use Rattle.op_trees.specs.Tree.{AllNames, capped}
use Rattle.op_trees.specs.SeenLaws.{names_then}
use Rattle.basics.specs.Options.{if_some}
use Rattle.process_core.specs.Ready.{Name}
use Rattle.prism_tree.specs.declared.syntax.PrismFormula.{PrismFormula}
use Rattle.prism_tree.specs.declared.syntax.PrismFile.{PrismFile}
use Rattle.prism_tree.specs.Syntax.{Expression, Formula, File, formula_of, file_of}
use Rattle.prism_flat.specs.Names.{formula_body}
use Rattle.prism_flat.specs.Sizes.{nodes_by, height_by, name_nodes, name_height, count_of}
use Rattle.prism_flat.specs.Order.{whole_nodes, whole_height, counts_body, measures_body}
use Rattle.prism_flat.specs.Places.{IsPlaceOrder, IsEarlier, IsListed, at_places, formula_names, stands, places_order}
use Rattle.prism_check.specs.declared.tree_size.Size.{Size}
use Rattle.prism_check.specs.Counted.{AreSizes, leaf}
use Rattle.prism_check.proofs.Capping.{nodes_capped_on, height_capped_on}

module _ (file : File) where
  abbrev nodes_under : Name → ℕ
  nodes_under x = name_nodes (formula_body file) (length file.formulas) x

  abbrev height_under : Name → ℕ
  height_under x = name_height (formula_body file) (length file.formulas) x

  -- a name's size is that of what it stands for, written out
  abbrev pub IsRight : (Name → Size) → Name → Type 0
  IsRight sizes x = ((sizes x).nodes ≡ capped (nodes_under x)) × ((sizes x).height ≡ capped (height_under x))

  -- each formula's name counts as its body
  pub record Settles : Type 0 where
    pub nodes : (x : Name) → nodes_under x ≡ count_of (formula_body file x) (whole_nodes file)
    pub height : (x : Name) → height_under x ≡ count_of (formula_body file x) (whole_height file)

  -- what is left of an order while its formulas are counted
  pub record Left (sizes : Name → Size) (rest : List Formula) : Type 0 where
    pub earlier : List Name
    pub right : (x : Name) → IsEarlier file earlier x → IsRight sizes x
    pub listed : IsListed file earlier rest
    pub covers : (x : Name) (b : Expression) → formula_body file x ≡ Some b → stands (earlier ++ formula_names rest) x ≡ true
    pub settles : Settles

  settled : (places : List ℕ) → IsPlaceOrder file places → Settles
  settled places placed = record {
    nodes = counts_body file (formula_names (at_places file.formulas places)) (places_order file places placed);
    height = measures_body file (formula_names (at_places file.formulas places)) (places_order file places placed);
  }

  plain_name : (settles : Settles) (sizes : Name → Size) → ((x : Name) → sizes x ≡ leaf) → (x : Name) → formula_body file x ≡ None → IsRight sizes x
  plain_name settles sizes leaves x none = (
    ap (λ s. s.nodes) (leaves x) ∙ ap capped (sym (settles.nodes x ∙ ap (λ o. count_of o (whole_nodes file)) none)),
    ap (λ s. s.height) (leaves x) ∙ ap capped (sym (settles.height x ∙ ap (λ o. count_of o (whole_height file)) none)),
  )

  pub at_first : (places : List ℕ) (sizes : Name → Size) → IsPlaceOrder file places → ((x : Name) → sizes x ≡ leaf) → Left sizes (at_places file.formulas places)
  at_first places sizes placed leaves = record {
    earlier = [];
    right = first;
    listed = placed.listed;
    covers = placed.covers;
    settles = settled places placed;
  }
    where
      first : (x : Name) → IsEarlier file [] x → IsRight sizes x
      first x (inl e) = absurd cc
      first x (inr none) = plain_name (settled places placed) sizes leaves x none

  -- ---- one formula more
  body_right : (settles : Settles) (earlier : List Name) (sizes : Name → Size) (f : Formula) (size : Size) → ((x : Name) → IsEarlier file earlier x → IsRight sizes x) →
      formula_body file f.name.name ≡ Some f.body → AllNames (IsEarlier file earlier) f.body →
      size.nodes ≡ capped (nodes_by (λ x. (sizes x).nodes) f.body) → size.height ≡ capped (height_by (λ x. (sizes x).height) f.body) →
      (size.nodes ≡ capped (nodes_under f.name.name)) × (size.height ≡ capped (height_under f.name.name))
  body_right settles earlier sizes f size right has low counted measured = (
    counted
        ∙ nodes_capped_on (λ x. (sizes x).nodes) nodes_under f.body
        (names_then (IsEarlier file earlier) (λ x. (sizes x).nodes ≡ capped (nodes_under x)) (λ x e. (right x e).0) f.body low)
        ∙ ap capped (sym (settles.nodes f.name.name ∙ ap (λ o. count_of o (whole_nodes file)) has)),
    measured
        ∙ height_capped_on (λ x. (sizes x).height) height_under f.body
        (names_then (IsEarlier file earlier) (λ x. (sizes x).height ≡ capped (height_under x)) (λ x e. (right x e).1) f.body low)
        ∙ ap capped (sym (settles.height f.name.name ∙ ap (λ o. count_of o (whole_height file)) has)),
  )

  -- a name that stands among these and one more, and is not that one
  still_earlier : (earlier : List Name) (name x : Name) → bytes_eq name x ≡ false → IsEarlier file (earlier ++ name ∷ []) x → IsEarlier file earlier x
  still_earlier earlier name x other (inr none) = inr none
  still_earlier earlier name x other (inl e) =
      inl (first (stands earlier x) (bytes_eq name x) other (sym (list_any-append (λ y. bytes_eq y x) earlier (name ∷ [])) ∙ e))
    where
      first : (a b : Bool) → b ≡ false → (a || (b || false)) ≡ true → a ≡ true
      first true b n h = refl
      first false true n h = absurd cc
      first false false n h = h

  right_more : (earlier : List Name) (sizes new : Name → Size) (name : Name) (size : Size) → ((x : Name) → IsEarlier file earlier x → IsRight sizes x) →
      (size.nodes ≡ capped (nodes_under name)) × (size.height ≡ capped (height_under name)) → ((x : Name) → new x ≡ (if bytes_eq name x then size else sizes x)) →
      (x : Name) → IsEarlier file (earlier ++ name ∷ []) x → IsRight new x
  right_more earlier sizes new name size right own noted x e = by_test (bytes_eq name x) refl
    where
      by_test : (b : Bool) → bytes_eq name x ≡ b → IsRight new x
      by_test true t =
          let same = (bytes_eq-Decides name x).0 t in
          let is : new x ≡ size = noted x ∙ ap (λ b. if b then size else sizes x) t in
          (ap (λ s. s.nodes) is ∙ own.0 ∙ ap (λ y. capped (nodes_under y)) same, ap (λ s. s.height) is ∙ own.1 ∙ ap (λ y. capped (height_under y)) same)
      by_test false t =
          let is : new x ≡ sizes x = noted x ∙ ap (λ b. if b then size else sizes x) t in
          let was = right x (still_earlier earlier name x t e) in
          (ap (λ s. s.nodes) is ∙ was.0, ap (λ s. s.height) is ∙ was.1)

  pub one_more : (sizes new : Name → Size) (f : Formula) (rest : List Formula) (size : Size) → Left sizes (f ∷ rest) →
      size.nodes ≡ capped (nodes_by (λ x. (sizes x).nodes) f.body) → size.height ≡ capped (height_by (λ x. (sizes x).height) f.body) →
      ((x : Name) → new x ≡ (if bytes_eq f.name.name x then size else sizes x)) → Left new rest
  one_more sizes new f rest size left counted measured noted = record {
    earlier = left.earlier ++ f.name.name ∷ [];
    right = right_more left.earlier sizes new f.name.name size left.right
        (body_right left.settles left.earlier sizes f size left.right left.listed.0 left.listed.1 counted measured) noted;
    listed = left.listed.2;
    covers = λ x b h. ap (λ ns. stands ns x) (append_assoc left.earlier (f.name.name ∷ []) (formula_names rest)) ∙ left.covers x b h;
    settles = left.settles;
  }

  -- ---- none more
  pub none_more : (sizes : Name → Size) → Left sizes [] → AreSizes file sizes
  none_more sizes left = record { nodes = λ x. (all x (formula_body file x) refl).0; height = λ x. (all x (formula_body file x) refl).1 }
    where
      all : (x : Name) (o : Option Expression) → formula_body file x ≡ o → IsRight sizes x
      all x None e = left.right x (inr e)
      all x (Some b) e = left.right x (inl (sym (list_any-append (λ y. bytes_eq y x) left.earlier [] ∙ or_false (stands left.earlier x)) ∙ left.covers x b e))
        where
          or_false : (a : Bool) → (a || false) ≡ a
          or_false true = refl
          or_false false = refl

-- ---- places of formulas
pub place_more : (file : PrismFile) (sizes new : Name → Size) (places : List ℕ) (i place : ℕ) (f : PrismFormula) (size : Size) → i < length places →
    place ≡ get_or places i 0 → IsPlaceOrder (file_of file) places → f ≡ get_or file.formulas place f →
    size.nodes ≡ capped (nodes_by (λ x. (sizes x).nodes) (formula_of f).body) → size.height ≡ capped (height_by (λ x. (sizes x).height) (formula_of f).body) →
    ((x : Name) → new x ≡ (if bytes_eq f.name.name x then size else sizes x)) →
    Left (file_of file) sizes (at_places (file_of file).formulas (drop i places)) → Left (file_of file) new (at_places (file_of file).formulas (drop (i + 1) places))
place_more file sizes new places i place f size h is placed is_formula counted measured noted left =
    one_more (file_of file) sizes new (formula_of f) (at_places (file_of file).formulas (drop (i + 1) places)) size
    (subst (Left (file_of file) sizes) shown left) counted measured noted
  where
    within : place < length file.formulas
    within =
        let a : get_or places i 0 < length (file_of file).formulas = placed.within i 0 h in
        let b = length-map file.formulas formula_of in
        omega (arith, is)

    found : slice_get (file_of file).formulas (get_or places i 0) ≡ Some (formula_of f)
    found =
        ap (slice_get (file_of file).formulas) (sym is) ∙ slice_get-map formula_of file.formulas place
        ∙ ap (option_map formula_of) (slice_get_read file.formulas (length file.formulas) place f refl within is_formula)

    shown : at_places (file_of file).formulas (drop i places) ≡ formula_of f ∷ at_places (file_of file).formulas (drop (i + 1) places)
    shown =
        at_drop_more (at_places (file_of file).formulas) places i 0 h
        ∙ ap (λ o. if_some o ++ at_places (file_of file).formulas (drop (i + 1) places)) found

pub no_place_more : (file : File) (sizes : Name → Size) (places : List ℕ) (i : ℕ) → length places ≤ i →
    Left file sizes (at_places file.formulas (drop i places)) → AreSizes file sizes
no_place_more file sizes places i h left =
    none_more file sizes (subst (λ (ps : List ℕ). Left file sizes (at_places file.formulas ps)) (at_drop_all (λ ps. ps) places i h) left)

-- a name is noted in a table
pub noted : (old new : Name → Option Size) (name q : Name) (size : Size) → new q ≡ (if bytes_eq name q then Some size else old q) →
    unwrap_or (new q) leaf ≡ (if bytes_eq name q then size else unwrap_or (old q) leaf)
noted old new name q size h = ap (λ o. unwrap_or o leaf) h ∙ by_test (bytes_eq name q)
  where
    by_test : (b : Bool) → unwrap_or (if b then Some size else old q) leaf ≡ (if b then size else unwrap_or (old q) leaf)
    by_test true = refl
    by_test false = refl
