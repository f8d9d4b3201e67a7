-- What is the same as the canonical value of a tree, places aside, is read back as the tree.
use Rattle.std.proofs.Common.{◌≡◌, ℕ, List, [], sym, ap, subst, ◌∙◌}
use Rattle.decimal_json.specs.declared.tree.Json.{Json}
use Rattle.decimal_json.specs.Proper.{SameValue}
use Rattle.decimal_json.proofs.Single.{one_value}
use Rattle.jani_table.specs.declared.table.Form.TheVariants as F
use Rattle.jani_table.specs.Node.{node}
use Rattle.jani_table.specs.Faults.{faults}
use Rattle.jani_tree.specs.Syntax.{File}
use Rattle.jani_tree.specs.Jani.{IsFile}
use Rattle.jani_tree.specs.Canonical.{file_node}
use Rattle.basics.specs.Lists.{IsNotEmpty as HasItems}
use Rattle.jani_tree.specs.Form.{FileShort, IsShortName}
use Rattle.jani_tree.specs.Places.{bare_node, bare_file}
use Rattle.jani_tree.specs.Back.{IsWritable, OnlyLong, IsCleanValue, ReadsBack, SpellsFile, TextSpells}
use Rattle.jani_tree.proofs.Again.{file_again}
use Rattle.jani_tree.proofs.Sound.{IsNone, no_fault, short_name, only_long, any_name, file_good}
use Rattle.jani_tree.proofs.Filled.{Good}
use Rattle.jani_tree.specs.Text.{KeptNode, SpellsNode, jani_text}
use Rattle.jani_tree.proofs.Made.{spelled_node}
use Rattle.jani_tree.proofs.Normal.{normal_again}
use Rattle.jani_tree.proofs.Bare.{file_bare, one_tree}
use Rattle.jani_tree.proofs.Same.{node_same}
use Rattle.jani_tree.proofs.Bared.{clean_too}

-- a value that is the same as the canonical one
same_nodes : (f : File) (x y : Json) → node x ≡ file_node f → SameValue y x → bare_node (node y) ≡ bare_node (file_node f)
same_nodes f x y e s = node_same y ∙ (ap node s ∙ (sym (node_same x) ∙ ap bare_node e))

-- with short names it has no fault of shape
pub no_shape_fault : (f : File) → IsWritable f → FileShort f → faults F.Model (file_node f) ≡ []
no_shape_fault f h short = (file_good IsNone no_fault IsShortName short_name f short h.types h.once).clean

pub reads_back : ReadsBack
reads_back f x y h short e s =
    record {
      shape = clean_too (node y) (file_node f) F.Model (same_nodes f x y e s) (no_shape_fault f h short);
      same = λ g i. one_tree (node y) (file_node f) g f (same_nodes f x y e s) i (file_again f h.types);
    }

-- the canonical value of a tree is clean, but for names that are too long
pub clean_value : (f : File) (x : Json) → node x ≡ file_node f → IsWritable f → IsCleanValue x
clean_value f x e h =
    let g : Good OnlyLong F.Model (node x) = subst (Good OnlyLong F.Model) (sym e) (file_good OnlyLong only_long HasItems any_name f h.read h.types h.once) in
    record { shape = g.clean; normal = normal_again x g.normal; once = g.once }

-- its canonical text is spelled by a value of its data
pub spelled_file : (f : File) (bytes : List ℕ) → IsWritable f → bytes ≡ jani_text f → KeptNode (file_node f) → SpellsNode bytes (file_node f)
spelled_file f bytes h e k =
    let g : Good OnlyLong F.Model (file_node f) = file_good OnlyLong only_long HasItems any_name f h.read h.types h.once in
    spelled_node (file_node f) bytes e (k.proper g.normal)

-- ---- texts
pub text_spells : TextSpells
text_spells f x bytes form e s =
    record {
      tree = (s.0, s.1, s.2, subst (λ v. IsFile v (bare_file f)) (sym (same_nodes f x s.0 e s.3)) (file_bare (file_node f) f (file_again f form)));
      only = tree_of;
    }
  where
    tree_of : (g : File) → SpellsFile bytes g → bare_file g ≡ bare_file f
    tree_of g h =
        let same : h.0 ≡ s.0 = (one_value bytes h.0 s.0 h.1 s.1 h.2 s.2).0 in
        one_tree (node h.0) (file_node f) g f (ap (λ y. bare_node (node y)) same ∙ same_nodes f x s.0 e s.3) h.3 (file_again f form)
