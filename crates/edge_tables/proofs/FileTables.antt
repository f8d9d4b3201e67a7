-- The tables and the splits that code makes are those of the file.
use Rattle.std.specs.Prelude.{◌≡◌, ℕ, ◌+◌, List, [], ◌∷◌, map, Bool, is_some}
use Rattle.std.proofs.Common.{refl, ap, ap₂, ◌∙◌, subst}
use Rattle.std.proofs.Math.Path.{fun_ext}
use Rattle.jani_loops.specs.declared.accepting.ElementAutomaton.{ElementAutomaton}
use Rattle.jani_loops.specs.Elements.{element_view}
use Rattle.jani_tree.specs.Syntax.{Write, Automaton, Vector, File}
use Rattle.jani_meaning.specs.Elements as jani
use Rattle.jani_meaning.specs.Elements.{Owned, structures}
use Rattle.process_core.specs.Instance.{numbered}
use Rattle.prism_translation.specs.Elements.{elements, some_write}
use Rattle.prism_translation.proofs.Numbered.{numbered_from}
use Rattle.edge_tables.specs.declared.places.Places.{Places}
use Rattle.edge_tables.specs.Tables.{EdgeTable, table_of, table_in, Split, split_in, split_from}
use Rattle.edge_tables.specs.Places.{ArePlaces}
use Rattle.edge_tables.specs.Code.{pays_by}
use Rattle.edge_tables.proofs.EdgeTables.{split_is}

module _ (file : File) where
  -- ---- by the places of structures
  tables_alike : (t : Places) → ArePlaces t (structures file) → (k : ℕ) (autos : List Automaton) →
      numbered (λ k a. table_of (pays_by t k) a.edges ∷ []) k autos ≡ map (table_in file) (numbered_from k autos)
  tables_alike t h k [] = refl
  tables_alike t h k (a ∷ autos) =
      ap₂ (λ (x : EdgeTable) m. x ∷ m) (ap (λ (f : Write → Bool). table_of (some_write f) a.edges) (fun_ext (λ w. ap is_some (h k w.target.name)))) (tables_alike t h (k + 1) autos)

  pub tables_are : (t : Places) (vars : List Owned) (automata : List ElementAutomaton) → vars ≡ structures file → ArePlaces t vars →
      map element_view automata ≡ jani.elements file → numbered (λ k a. table_of (pays_by t k) a.edges ∷ []) 0 (map element_view automata) ≡ map (table_in file) (elements file)
  tables_are t vars automata v h e =
      tables_alike t (subst (ArePlaces t) v h) 0 (map element_view automata) ∙ ap (λ (l : List Automaton). map (table_in file) (numbered_from 0 l)) e

  pub splits_alike : (vs : List Vector) → map (λ v. split_from v 0 (map (table_in file) (elements file))) vs ≡ map (split_in file) vs
  splits_alike [] = refl
  splits_alike (v ∷ vs) = ap₂ (λ (s : Split) l. s ∷ l) (split_is file v 0 (jani.elements file)) (splits_alike vs)
