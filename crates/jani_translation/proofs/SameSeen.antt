-- Constants and columns are seen the same in the translated file.
use Rattle.std.specs.Prelude.{◌≡◌, ℕ, zero, suc, List, [], ◌∷◌, map, length, take, drop, Bool, true, false, cond, Option, Some, None, unwrap_or, bytes_eq, IfSome}
use Rattle.std.specs.List.{All, find, zip}
use Rattle.std.specs.Option.{option_map}
use Rattle.std.proofs.Common.{refl, sym, ap, subst, ◌∙◌, arith}
use Rattle.std.proofs.lemmas.List.{length-map}
use Rattle.std.proofs.lemmas.List.Elements.{All-head, All-tail}
use Rattle.basics.specs.Texts.{bytes_eq-true}
use Rattle.op_trees.specs.Seen.{Seen, known}
use Rattle.op_trees.specs.SeenLaws.{names_all}
use Rattle.op_trees.specs.declared.tree.Value.{Value}
use Rattle.process_core.specs.Ready.{Name}
use Rattle.prism_tree.specs.Syntax as prism
use Rattle.prism_tree.specs.Syntax.{Module, plain, copied}
use Rattle.prism_names.specs.Names as names
use Rattle.prism_names.specs.Names.{unchanged, part_of}
use Rattle.process_core.specs.Instance.{Valuation}
use Rattle.prism_flat.specs.Scene as prism_scene
use Rattle.jani_tree.specs.Syntax as jani
use Rattle.jani_tree.specs.Syntax.{Automaton, Var, File}
use Rattle.op_trees.specs.Names.{is_called}
use Rattle.jani_meaning.specs.Scene as jani_scene
use Rattle.jani_meaning.specs.Scene.{location_column}
use Rattle.name_table.specs.declared.entry.Entry.{Entry}
use Rattle.prism_images.specs.Image.{image}
use Rattle.prism_images.proofs.Values.{seen_alike}
use Rattle.name_table.specs.Asks.{variables, value_names, entries, new_names}
use Rattle.jani_translation.specs.Parts.{constant}
use Rattle.jani_translation.specs.Translated.{translated}
use Rattle.jani_translation.specs.SeenLaws.{IsSound, SoundConstant, IsSoundUnder, GivenAlike, GivesAlike}
use Rattle.jani_translation.proofs.Each.{for_constants}
use Rattle.jani_translation.proofs.Fresh.{Agrees, values_agree, agrees_front, agrees_back}
use Rattle.jani_translation.proofs.Written.{given_reading}

-- ---- expressions
pub image_seen : (new : Name → Name) (e : prism.Expression) (old env : Name → Seen) → ((x : Name) → env (new x) ≡ old x) → IsSound old e →
    jani_scene.see (image new e) env ≡ names.see e old
unfolding jani_scene.see names.see
image_seen new e old env h s = seen_alike new old env e (names_all (λ x. env (new x) ≡ old x) h e) s.0 s.1

-- ---- a constant
pub constant_alike : (new : Name → Name) (old env : Name → Seen) (g h : Option Value) (d : Option prism.Expression) → ((x : Name) → env (new x) ≡ old x) → (d ≡ None → g ≡ h) → IfSome d (IsSound old) →
    jani_scene.constant_seen g env (option_map (image new) d) ≡ prism_scene.constant_seen h old d
constant_alike new old env g h None n e s = ap known (e refl)
constant_alike new old env g h (Some t) n e s = image_seen new t old env n s

value_alike : (new : Name → Name) (old env : Name → Seen) (g h : Option Value) (o : Option jani.Const) (p : Option prism.Const) →
    option_map (λ c. c.value) o ≡ option_map (λ c. option_map (image new) c.value) p → ((x : Name) → env (new x) ≡ old x) →
    ((c : prism.Const) → p ≡ Some c → (c.value ≡ None → g ≡ h) × IfSome c.value (IsSound old)) →
    jani_scene.constant_value g env o ≡ prism_scene.constant_value h old p
value_alike new old env g h None None e n s = refl
value_alike new old env g h None (Some c) e n s = absurd cc
value_alike new old env g h (Some c) None e n s = absurd cc
value_alike new old env g h (Some c) (Some d) e n s =
    ap (λ o. (jani_scene.constant_seen g env (unwrap_or o None)).value) e
    ∙ ap (λ r. r.value) (constant_alike new old env g h d.value n (s d refl).0 (s d refl).1)

-- ---- the constant of a name
found_alike : (b c : Bool) (k : jani.Const) (d : prism.Const) (f : Option prism.Expression → Option jani.Expression) (o : Option jani.Const) (p : Option prism.Const) →
    b ≡ c → k.value ≡ f d.value → option_map (λ k. k.value) o ≡ option_map (λ d. f d.value) p →
    option_map (λ k. k.value) (cond b (Some k) o) ≡ option_map (λ d. f d.value) (cond c (Some d) p)
found_alike true true k d f o p e v r = ap Some v
found_alike true false k d f o p e v r = absurd cc
found_alike false true k d f o p e v r = absurd cc
found_alike false false k d f o p e v r = r

find_alike : (new : Name → Name) (x z : Name) (cs : List prism.Const) (es : List Entry) → Agrees x z (map (λ c. c.name.name) cs) es →
    option_map (λ k. k.value) (find (λ k. is_called z k.name) (map (λ p. constant new p.0 p.1) (zip cs es)))
    ≡ option_map (λ d. option_map (image new) d.value) (find (λ d. is_called x d.name) cs)
find_alike new x z [] es h = refl
find_alike new x z (c ∷ cs) [] h = absurd h
find_alike new x z (c ∷ cs) (e ∷ es) h =
    found_alike (bytes_eq e.name z) (bytes_eq c.name.name x) (constant new c e) c (option_map (image new)) _ _ h.0 refl (find_alike new x z cs es h.1)

-- one that is found has the name, and what all have
pub record IsFound (P : prism.Const → Type 0) (x : Name) (c : prism.Const) : Type 0 where
  pub name : c.name.name ≡ x
  pub has : P c

found_first : (P : prism.Const → Type 0) (x : Name) (d c : prism.Const) (b : Bool) (o : Option prism.Const) → bytes_eq d.name.name x ≡ b → P d →
    (o ≡ Some c → IsFound P x c) → cond b (Some d) o ≡ Some c → IsFound P x c
found_first P x d c true o e p r h =
    let s : d ≡ c = ap (λ k. unwrap_or k d) h in
    subst (IsFound P x) s (record { name = bytes_eq-true d.name.name x e; has = p })
found_first P x d c false o e p r h = r h

found : (P : prism.Const → Type 0) (x : Name) (cs : List prism.Const) (c : prism.Const) → All P cs → find (λ d. is_called x d.name) cs ≡ Some c → IsFound P x c
found P x [] c a h = absurd cc
found P x (d ∷ cs) c a h = found_first P x d c (bytes_eq d.name.name x) _ refl (All-head P d cs a) (found P x cs c (All-tail P d cs a)) h

-- ---- cut lists of entries
pub zip-take : {X : Type 0} (xs : List X) (es : List Entry) → zip xs (take (length xs) es) ≡ zip xs es
zip-take [] es = refl
zip-take (x ∷ xs) [] = refl
zip-take (x ∷ xs) (e ∷ es) = ap (λ r. (x, e) ∷ r) (zip-take xs es)

module _ (file : prism.File) (v w : Valuation) (sound : IsSoundUnder file v) (alike : GivesAlike file v w) where
  agree : (x : Name) → Agrees x ((new_names file).value x) (value_names file) (entries file)
  agree x = values_agree file sound.distinct x

  pub constants_agree : (x : Name) → Agrees x ((new_names file).value x) (map (λ c. c.name.name) file.constants) (entries file)
  constants_agree x = agrees_front x ((new_names file).value x) (map (λ c. c.name.name) file.constants) (map (λ y. y.name.name) (variables file)) (entries file) (agree x)

  pub variables_agree : (x : Name) → Agrees x ((new_names file).value x) (map (λ y. y.name.name) (variables file)) (drop (length file.constants) (entries file))
  variables_agree x = agrees_back (λ c. c.name.name) x ((new_names file).value x) file.constants (map (λ y. y.name.name) (variables file)) (entries file) (agree x)

  called_alike : (x : Name) →
      option_map (λ k. k.value) (jani_scene.constant_called (translated file) ((new_names file).value x))
      ≡ option_map (λ d. option_map (image (new_names file).value) d.value) (prism_scene.constant_called file x)
  called_alike x =
      ap (λ ps. option_map (λ k. k.value) (find (λ k. is_called ((new_names file).value x) k.name) (map (λ p. constant (new_names file).value p.0 p.1) ps))) (zip-take file.constants (entries file))
      ∙ find_alike (new_names file).value x ((new_names file).value x) file.constants (entries file) (constants_agree x)

  given_alike : (x : Name) (c : prism.Const) → prism_scene.constant_called file x ≡ Some c → c.value ≡ None → w ((new_names file).value x) ≡ v x
  given_alike x c h =
      let f = found (GivenAlike file v w) x file.constants c alike h in
      subst (λ y. c.value ≡ None → w ((new_names file).value y) ≡ v y) f.name f.has

  sound_constant : (x : Name) (c : prism.Const) → prism_scene.constant_called file x ≡ Some c → SoundConstant file v c
  sound_constant x c h = (found (SoundConstant file v) x file.constants c sound.constants h).has

  within_alike : (n : ℕ) (x : Name) → jani_scene.constant_within (translated file) w n ((new_names file).value x) ≡ prism_scene.constant_within file v n x
  within_alike zero x = refl
  within_alike (suc n) x =
      value_alike (new_names file).value (λ y. known (prism_scene.constant_within file v n y)) (λ y. known (jani_scene.constant_within (translated file) w n y))
      (w ((new_names file).value x)) (v x) (jani_scene.constant_called (translated file) ((new_names file).value x)) (prism_scene.constant_called file x)
      (called_alike x) (λ y. ap known (within_alike n y)) (λ c h. (given_alike x c h, sound_constant x c h n))
      ∙ ap (λ r. prism_scene.constant_value (v x) r (prism_scene.constant_called file x)) (sym (given_reading file (λ y. known (prism_scene.constant_within file v n y)) sound.written.formulas))

  pub n_constants : length (translated file).constants ≡ length file.constants
  n_constants =
      length-map (zip file.constants (new_names file).constants) (λ p. constant (new_names file).value p.0 p.1)
      ∙ pairs file.constants (new_names file).constants (for_constants file)
    where
      pairs : (cs : List prism.Const) (es : List Entry) → length cs ≡ length es → length (zip cs es) ≡ length cs
      pairs [] es l = refl
      pairs (c ∷ cs) [] l = absurd cc
      pairs (c ∷ cs) (e ∷ es) l = ap suc (pairs cs es (omega arith))

  pub constant_same : (x : Name) → jani_scene.constant (translated file) w ((new_names file).value x) ≡ prism_scene.constant file v x
  constant_same x =
      ap (λ n. jani_scene.constant_within (translated file) w n ((new_names file).value x)) n_constants ∙ within_alike (length file.constants) x

  pub names_alike : (x : Name) → jani_scene.constant_names (translated file) w ((new_names file).value x) ≡ known (prism_scene.constant file v x)
  names_alike x = ap known (constant_same x)

  pub names_plain : prism_scene.constant_names file v unchanged ≡ (λ x. known (prism_scene.constant file v x))
  names_plain = given_reading file (λ x. known (prism_scene.constant file v x)) sound.written.formulas
