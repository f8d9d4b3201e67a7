-- The edges of a translated file at a state are the commands, each behind the location of its element.
use Rattle.std.specs.Prelude.{◌≡◌, ℕ, zero, suc, ◌+◌, ◌<◌, ◌≤◌, List, [], ◌∷◌, ◌++◌, map, length, drop, Bool, true, false, not, ◌&&◌, cond, Option, Some, None, if◌then◌else◌, slice_get, get_or, bytes_eq, IfSome, Contains}
use Rattle.std.specs.List.{All, filter, flat_map, zip, position}
use Rattle.std.specs.Option.{option_map}
use Rattle.std.proofs.Common.{refl, sym, ap, ap₂, ◌∙◌, arith, append-nil, length-append}
use Rattle.std.proofs.lemmas.List.{length-map}
use Rattle.std.proofs.lemmas.List.Elements.{All-head, All-tail}
use Rattle.basics.specs.Members.{position_cons}
use Rattle.basics.specs.Texts.{bytes_eq-self}
use Rattle.basics.specs.Lists.{slice_get-drop, slice_get-take}
use Rattle.bridge_io.specs.declared.reason.Named.{Named}
use Rattle.op_trees.specs.Seen.{Seen}
use Rattle.process_core.specs.Product.{map-map}
use Rattle.process_core.specs.Ready.{Values, Name, Write, Reward, Update, Ready}
use Rattle.prism_tree.specs.Syntax as prism
use Rattle.prism_names.specs.Names.{unchanged, written_name, is_formula, see}
use Rattle.process_core.specs.Instance.{Valuation, Truths, Column, numbered, only_if, domain_at, fits_in}
use Rattle.prism_flat.specs.Scene.{has_condition}
use Rattle.prism_flat.specs.Scene as prism_scene
use Rattle.prism_flat.specs.Moment as prism_moment
use Rattle.jani_tree.specs.Syntax.{Automaton, Var, File, element_names}
use Rattle.jani_tree.specs.Syntax as jani
use Rattle.op_trees.specs.Names.{is_called}
use Rattle.jani_meaning.specs.Elements.{owned_by, place_of as place_in, is_structure, structures, is_boolean, column_number, structure_number, location_number}
use Rattle.jani_meaning.specs.Scene as jani_scene
use Rattle.jani_meaning.specs.Scene.{location_column}
use Rattle.jani_meaning.specs.Moment as jani_moment
use Rattle.jani_meaning.proofs.Columns.{numbered_at}
use Rattle.name_table.specs.declared.entry.Entry.{Entry}
use Rattle.prism_images.specs.Image.{image}
use Rattle.name_table.specs.Asks.{bodies, variables, entries, rewards_at, NewNames, new_names}
use Rattle.jani_translation.specs.Parts.{variable, label, structure}
use Rattle.jani_translation.specs.Automata.{loc, earns_silently, has_monitor, edge, edge_action, destination, write, module_automaton, module_automata, monitor, automaton, zz_monitor, monitor_edges, location_values}
use Rattle.jani_translation.specs.Translated.{translated}
use Rattle.jani_translation.specs.SeenLaws.{IsSound, IsSoundUnder, GivesAlike, renamed_column}
use Rattle.jani_translation.specs.StateLaws.{at_home, state_of, SoundWrite, SoundBranch, SoundCommand, shifted_write, shifted_update, edge_label, shifted_ready, shifted, EdgesWatched}
use Rattle.jani_translation.proofs.Each.{n_bodies, for_modules}
use Rattle.jani_translation.proofs.Fresh.{Agrees, entry_of}
use Rattle.jani_translation.proofs.SameSeen.{image_seen, variables_agree}
use Rattle.jani_translation.proofs.Elements.{elements_are}
use Rattle.jani_translation.proofs.Written.{body_part, written_parts, variable_columns}
use Rattle.jani_translation.proofs.StateNames.{place_owned, owned_more, column_is, names_seen_alike}
use Rattle.jani_translation.proofs.States.{columns_are}
use Rattle.jani_translation.proofs.OneForOne.{filter-none}
use Rattle.name_table.proofs.Parts.{values_apart}
use Rattle.jani_translation.proofs.Counts.{element_total, named}

-- ---- reward structures
pub filter-all : {X Y : Type 0} (p : Y → Bool) (f : X → Y) → ((x : X) → p (f x) ≡ true) → (xs : List X) → filter p (map f xs) ≡ map f xs
filter-all p f h [] = refl
filter-all p f h (x ∷ xs) = kept (p (f x)) (h x) (filter-all p f h xs)
  where
    kept : (b : Bool) → b ≡ true → filter p (map f xs) ≡ map f xs → cond b (f x ∷ filter p (map f xs)) (filter p (map f xs)) ≡ f x ∷ map f xs
    kept true e t = ap (λ r. f x ∷ r) t
    kept false e t = absurd cc

pub filter_owned : (p : Var → Bool) (vs : List Var) → filter (λ o. p o.var) (owned_by None vs) ≡ owned_by None (filter p vs)
filter_owned p [] = refl
filter_owned p (x ∷ vs) = kept (p x) (filter_owned p vs)
  where
    kept : (b : Bool) → filter (λ o. p o.var) (owned_by None vs) ≡ owned_by None (filter p vs) →
        cond b (record { owner = None; var = x } ∷ filter (λ o. p o.var) (owned_by None vs)) (filter (λ o. p o.var) (owned_by None vs)) ≡ owned_by None (cond b (x ∷ filter p vs) (filter p vs))
    kept true e = ap (λ r. record { owner = None; var = x } ∷ r) e
    kept false e = e

abbrev pub new_structures : prism.File → List Var
new_structures file = map (λ p. structure p.0 p.1) (zip file.rewards (new_names file).rewards)

structures_in : (file : prism.File) → filter (λ x. x.transient && not (is_boolean x.kind)) (translated file).variables ≡ new_structures file
structures_in file =
    let names = new_names file in
    filter-none (λ x. x.transient && not (is_boolean x.kind)) (λ p. variable names.value (has_condition file) p.0 p.1) (λ p. refl) (zip (variables file) names.variables) _
    ∙ filter-none (λ x. x.transient && not (is_boolean x.kind)) (λ p. label p.0 p.1) (λ p. refl) (zip file.labels names.labels) _
    ∙ filter-all (λ x. x.transient && not (is_boolean x.kind)) (λ p. structure p.0 p.1) (λ p. refl) (zip file.rewards names.rewards)

pub structures_owned : (file : prism.File) → structures (translated file) ≡ owned_by None (new_structures file)
structures_owned file =
    let g = translated file in
    ap (λ r. filter is_structure (owned_by None g.variables ++ r)) (owned_more file)
    ∙ ap (filter is_structure) (append-nil (owned_by None g.variables))
    ∙ filter_owned (λ x. x.transient && not (is_boolean x.kind)) g.variables
    ∙ ap (owned_by None) (structures_in file)

-- none of them has the name
none_called : (z : Name) (rs : List prism.Rewards) (es : List Entry) → ((i : ℕ) (e : Entry) → slice_get es i ≡ Some e → bytes_eq e.name z ≡ false) →
    position (λ y. is_called z y.name) (map (λ p. structure p.0 p.1) (zip rs es)) ≡ None
none_called z [] es h = refl
none_called z (r ∷ rs) [] h = refl
none_called z (r ∷ rs) (e ∷ es) h =
    position_cons (λ y. is_called z y.name) (structure r e) (map (λ p. structure p.0 p.1) (zip rs es))
    ∙ ap₂ (λ b p. cond b (Some 0) (option_map suc p)) (named r.name (h 0 e refl)) (none_called z rs es (λ i u g. h (suc i) u g))
  where
    named : (n : Option Named) → bytes_eq e.name z ≡ false → is_called z (structure (record { name = n; items = r.items }) e).name ≡ false
    named None h = h
    named (Some n) h = h

module _ (file : prism.File) (v w : Valuation) (sound : IsSoundUnder file v) (alike : GivesAlike file v w) where
  abbrev IsDeclared : Name → Type 0
  IsDeclared x = Contains (map (λ y. y.name.name) (variables file)) x

  no_structure : (i : ℕ) (x : Name) → IsDeclared x → structure_number (translated file) i ((new_names file).value x) ≡ None
  no_structure i x c =
      let z = (new_names file).value x in
      let k = c.0 in
      let n = length-map (variables file) (λ y. y.name.name) in
      let low : k < length (map (λ y. y.name.name) (variables file)) = c.1 in
      let d = entry_of x z (map (λ y. y.name.name) (variables file)) (drop (length file.constants) (entries file)) k c.1 c.2 (variables_agree file v w sound alike x) in
      ap (λ os. place_in os i z) (structures_owned file)
      ∙ place_owned i z (new_structures file)
      ∙ none_called z file.rewards (new_names file).rewards
      (λ j u h.
      let t = slice_get-take (length file.rewards) j (drop (rewards_at file (entries file)) (entries file)) u h in
      let inside = t.0 in
      ap (bytes_eq u.name) (sym d.name)
      ∙ values_apart file (rewards_at file (entries file) + j) (length file.constants + k) u d.entry (omega arith) (omega arith) (λ q. absurd (omega arith))
      (sym (slice_get-drop (rewards_at file (entries file)) j (entries file)) ∙ t.1) (sym (slice_get-drop (length file.constants) k (entries file)) ∙ d.at))

-- ---- columns
module _ (new : Name → Name) (any : Bool) (old : Name → Seen) (x z : Name) where
  found_place : (vs : List prism.Var) (es : List Entry) (k : ℕ) → k < length (map (λ y. y.name.name) vs) → get_or (map (λ y. y.name.name) vs) k x ≡ x → Agrees x z (map (λ y. y.name.name) vs) es →
      position (λ y. is_called z y.name) (map (λ p. variable new any p.0 p.1) (zip vs es)) ≡ Some (prism_moment.place_of (map (prism_scene.column any unchanged old) vs) x)
  found_place [] es k l g a = absurd (omega arith)
  found_place (y ∷ vs) [] k l g a = absurd a
  found_place (y ∷ vs) (e ∷ es) zero l g a =
      let same : bytes_eq y.name.name x ≡ true = ap (λ n. bytes_eq n x) g ∙ bytes_eq-self x in
      position_cons (λ y. is_called z y.name) (variable new any y e) (map (λ p. variable new any p.0 p.1) (zip vs es))
      ∙ by_test (bytes_eq e.name z) (bytes_eq y.name.name x) a.0 same
    where
      by_test : (b c : Bool) → b ≡ c → c ≡ true →
          cond b (Some 0) (option_map suc (position (λ y. is_called z y.name) (map (λ p. variable new any p.0 p.1) (zip vs es))))
          ≡ Some (cond (not c) (1 + prism_moment.place_of (map (prism_scene.column any unchanged old) vs) x) 0)
      by_test true true h q = refl
      by_test true false h q = absurd cc
      by_test false c h q = absurd cc
  found_place (y ∷ vs) (e ∷ es) (suc k) l g a =
      position_cons (λ y. is_called z y.name) (variable new any y e) (map (λ p. variable new any p.0 p.1) (zip vs es))
      ∙ ap (λ p. cond (bytes_eq e.name z) (Some 0) (option_map suc p)) (found_place vs es k (omega arith) g a.1)
      ∙ by_test (bytes_eq e.name z) (bytes_eq y.name.name x) a.0 (prism_moment.place_of (map (prism_scene.column any unchanged old) vs) x)
    where
      by_test : (b c : Bool) → b ≡ c → (n : ℕ) → cond b (Some 0) (Some (suc n)) ≡ Some (cond (not c) (1 + n) 0)
      by_test true true h n = refl
      by_test true false h n = absurd cc
      by_test false true h n = absurd cc
      by_test false false h n = ap Some (omega arith)

domain_behind : (new : Name → Name) (cs : List Column) (as_ : List Automaton) (k : ℕ) →
    domain_at (map location_column as_ ++ map (renamed_column new) cs) (length (named as_) + k) ≡ domain_at cs k
domain_behind new cs [] k =
    let on : zero + k ≡ k = omega arith in
    ap₂ (λ ds i. get_or ds i Truths) (map-map (λ c. c.domain) (renamed_column new) cs) on
domain_behind new cs (a ∷ as_) k =
    let on : suc (length (named as_)) + k ≡ suc (length (named as_) + k) = omega arith in
    ap (λ i. domain_at (map location_column (a ∷ as_) ++ map (renamed_column new) cs) i) on ∙ domain_behind new cs as_ k

-- ---- the same writes, updates and commands
same_write : (m n : ℕ) (a b : Seen) (f g : Bool) → m ≡ n → a ≡ b → f ≡ g → ◌≡◌ {A = Write} (record { column = m; value = a; fits = f }) (record { column = n; value = b; fits = g })
same_write m n a b f g p q r = cc

same_update : (a b : Seen) (ws vs : List Write) (rs qs : List Reward) → a ≡ b → ws ≡ vs → rs ≡ qs →
    ◌≡◌ {A = Update} (record { weight = a; writes = ws; rewards = rs }) (record { weight = b; writes = vs; rewards = qs })
same_update a b ws vs rs qs p q r = cc

same_ready : (a b : Option Name) (g h : Seen) (us ws : List Update) → a ≡ b → g ≡ h → us ≡ ws →
    ◌≡◌ {A = Ready} (record { action = a; guard = g; updates = us }) (record { action = b; guard = h; updates = ws })
same_ready a b g h us ws p q r = cc

plain_name : (b : Bool) (x : Name) → (if b then x else unchanged x) ≡ x
plain_name true x = refl
plain_name false x = refl

pub home_at : {X : Type 0} (xs : List X) (s : Values) (i : ℕ) → i < length xs → slice_get (map (λ x. at_home) xs ++ s) i ≡ Some at_home
home_at [] s i l = absurd (omega arith)
home_at (x ∷ xs) s zero l = refl
home_at (x ∷ xs) s (suc i) l = home_at xs s i (omega arith)

label_same : (silently : Bool) (names : NewNames) (a : Option Named) →
    option_map (λ x. x.name) (edge_action names silently a) ≡ edge_label silently names.action (option_map (λ n. unchanged n.name) a)
label_same silently names (Some a) = refl
label_same true names None = refl
label_same false names None = refl

module _ (file : prism.File) (v w : Valuation) (sound : IsSoundUnder file v) (alike : GivesAlike file v w) (s : Values) (long : length s ≡ length (variables file)) where
  abbrev g : File
  g = translated file

  abbrev new : Name → Name
  new = (new_names file).value

  abbrev n : ℕ
  n = length (element_names (translated file))

  abbrev old : Name → Seen
  old = prism_moment.names_in file v s unchanged

  abbrev env : ℕ → Name → Seen
  env i = jani_moment.names_in (translated file) w (state_of file s) i

  pub here : (i : ℕ) (x : Name) → env i (new x) ≡ old x
  here i x = names_seen_alike file v w sound alike s long i x

  pub expression_here : (i : ℕ) (e : prism.Expression) → IsSound old e → jani_scene.see (image new e) (env i) ≡ see e old
  expression_here i e h = image_seen new e old (env i) (here i) h

  weight_here : (i : ℕ) (o : Option prism.Expression) → IfSome o (IsSound old) → jani_moment.weight_seen (env i) (option_map (image new) o) ≡ prism_moment.weight_seen old o
  weight_here i None h = refl
  weight_here i (Some e) h = expression_here i e h

  place_here : (i : ℕ) (x : Name) → Contains (map (λ y. y.name.name) (variables file)) x →
      column_number g i (new x) ≡ Some (n + prism_moment.place_of (prism_scene.columns_of file v) x)
  place_here i x c =
      column_is file i (new x)
      ∙ ap (option_map (λ k. n + k))
      (found_place new (has_condition file) (prism_scene.constant_names file v unchanged) x (new x) (variables file) (drop (length file.constants) (entries file)) c.0 c.1 c.2 (variables_agree file v w sound alike x)
      ∙ ap (λ cs. Some (prism_moment.place_of cs x)) (sym (variable_columns file v sound.written.modules)))

  domain_here : (k : ℕ) → domain_at (jani_scene.columns_of g w) (n + k) ≡ domain_at (prism_scene.columns_of file v) k
  domain_here k =
      ap (λ cs. domain_at cs (n + k)) (columns_are file v w sound alike)
      ∙ domain_behind new (prism_scene.columns_of file v) g.automata k

  write_here : (i : ℕ) (y : prism.Write) → SoundWrite file v s y →
      jani_moment.write_at g w (state_of file s) i (write (new_names file) y)
      ≡ shifted_write n (prism_moment.write_at file (prism_scene.columns_of file v) unchanged old y) ∷ []
  write_here i y h =
      let cs = prism_scene.columns_of file v in
      let x = y.name.name in
      let k = prism_moment.place_of cs x in
      let seen = expression_here i y.value h.1 in
      let right : k ≡ prism_moment.place_of cs (written_name file unchanged x) = ap (prism_moment.place_of cs) (sym (plain_name (is_formula file x) x)) in
      ap (λ p. jani_moment.column_write (jani_scene.columns_of g w) p (jani_scene.see (image new y.value) (env i))) (place_here i x h.0)
      ∙ ap (λ r. r ∷ [])
      (same_write _ _ _ _ _ _ (ap (λ m. n + m) right) seen
      (ap₂ (λ d a. fits_in d a.value) (domain_here k ∙ ap (domain_at cs) right) seen))

  writes_here : (i : ℕ) (ys : List prism.Write) → All (SoundWrite file v s) ys →
      flat_map (jani_moment.write_at g w (state_of file s) i) (map (write (new_names file)) ys)
      ≡ map (shifted_write n) (map (prism_moment.write_at file (prism_scene.columns_of file v) unchanged old) ys)
  writes_here i [] h = refl
  writes_here i (y ∷ ys) h =
      ap₂ (λ a b. a ++ b) (write_here i y (All-head (SoundWrite file v s) y ys h)) (writes_here i ys (All-tail (SoundWrite file v s) y ys h))

  no_rewards : (i : ℕ) (ys : List prism.Write) → All (SoundWrite file v s) ys →
      flat_map (jani_moment.reward_at g w (state_of file s) i) (map (write (new_names file)) ys) ≡ []
  no_rewards i [] h = refl
  no_rewards i (y ∷ ys) h =
      ap₂ (λ a b. a ++ b)
      (ap (λ p. jani_moment.reward_of p (jani_scene.see (image new y.value) (env i))) (no_structure file v w sound alike i y.name.name (All-head (SoundWrite file v s) y ys h).0))
      (no_rewards i ys (All-tail (SoundWrite file v s) y ys h))

  -- an automaton whose one location is `loc`
  abbrev AtHome : Automaton → Type 0
  AtHome a = location_number a loc.name ≡ 0

  update_here : (i : ℕ) (a : Automaton) → AtHome a → (b : prism.Branch) → SoundBranch file v s b →
      jani_moment.update_at g w (state_of file s) i a (destination (new_names file) b)
      ≡ shifted_update n i (prism_moment.update_at file (prism_scene.columns_of file v) unchanged old b)
  update_here i a home b h =
      same_update _ _ _ _ _ _ (weight_here i b.weight h.0)
      (ap₂ (λ k ws. jani_moment.location_write i k ∷ ws) home (writes_here i b.writes h.1)) (no_rewards i b.writes h.1)

  updates_here : (i : ℕ) (a : Automaton) → AtHome a → (bs : List prism.Branch) → All (SoundBranch file v s) bs →
      map (jani_moment.update_at g w (state_of file s) i a) (map (destination (new_names file)) bs)
      ≡ map (shifted_update n i) (map (prism_moment.update_at file (prism_scene.columns_of file v) unchanged old) bs)
  updates_here i a home [] h = refl
  updates_here i a home (b ∷ bs) h =
      ap₂ (λ x r. x ∷ r) (update_here i a home b (All-head (SoundBranch file v s) b bs h)) (updates_here i a home bs (All-tail (SoundBranch file v s) b bs h))

  command_here : (silently : Bool) (i : ℕ) (a : Automaton) → AtHome a → (c : prism.Command) → SoundCommand file v s c →
      jani_moment.edge_at g w (state_of file s) i a (edge (new_names file) silently c)
      ≡ shifted_ready (edge_label silently (new_names file).action) n i (prism_moment.command_at file (prism_scene.columns_of file v) unchanged old c)
  command_here silently i a home c h =
      same_ready _ _ _ _ _ _ (label_same silently (new_names file) c.action) (expression_here i c.guard h.0) (updates_here i a home c.branches h.1)

  commands_here : (silently : Bool) (i : ℕ) (a : Automaton) → AtHome a → (cs : List prism.Command) → All (SoundCommand file v s) cs →
      map (jani_moment.edge_at g w (state_of file s) i a) (map (edge (new_names file) silently) cs)
      ≡ map (shifted_ready (edge_label silently (new_names file).action) n i) (map (prism_moment.command_at file (prism_scene.columns_of file v) unchanged old) cs)
  commands_here silently i a home [] h = refl
  commands_here silently i a home (c ∷ cs) h =
      ap₂ (λ x r. x ∷ r) (command_here silently i a home c (All-head (SoundCommand file v s) c cs h)) (commands_here silently i a home cs (All-tail (SoundCommand file v s) c cs h))

  -- the element of a module: all its edges start at its location
  module_here : (silently : Bool) (values : List jani.Write) (i : ℕ) (m : prism.Body) (e : Entry) → i < n → All (SoundCommand file v s) m.commands →
      jani_moment.element_at g w (state_of file s) i (module_automaton (new_names file) silently values m e)
      ≡ map (shifted_ready (edge_label silently (new_names file).action) n i) (prism_moment.part_at file v s (body_part m))
  module_here silently values i m e l h =
      let a = module_automaton (new_names file) silently values m e in
      ap (map (jani_moment.edge_at g w (state_of file s) i a))
      (filter-all (λ e. jani_moment.is_current (state_of file s) i a e.location.name) (edge (new_names file) silently) (λ c. ap (jani_moment.is_number 0) (home_at (element_names g) s i l)) m.commands)
      ∙ commands_here silently i a refl m.commands h

  modules_here : (silently : Bool) (values : List jani.Write) (i : ℕ) (ms : List prism.Body) (es : List Entry) → length ms ≡ length es → i + length ms ≤ n → All (λ m. All (SoundCommand file v s) m.commands) ms →
      numbered (λ i a. jani_moment.element_at g w (state_of file s) i a ∷ []) i (module_automata (new_names file) silently values ms es)
      ≡ numbered (λ i m. map (shifted_ready (edge_label silently (new_names file).action) n i) m ∷ []) i (map (prism_moment.part_at file v s) (map body_part ms))
  modules_here silently values i [] es q l h = refl
  modules_here silently values i (m ∷ ms) [] q l h = absurd cc
  modules_here silently values i (m ∷ ms) (e ∷ es) q l h =
      ap₂ (λ x r. x ∷ r) (module_here silently values i m e (omega arith) (All-head (λ m. All (SoundCommand file v s) m.commands) m ms h))
      (modules_here silently [] (i + 1) ms es (omega arith) (omega arith) (All-tail (λ m. All (SoundCommand file v s) m.commands) m ms h))

pub n_automata : (names : NewNames) (silently : Bool) (vs : List jani.Write) (ms : List prism.Body) (es : List Entry) → length ms ≡ length es → length (module_automata names silently vs ms es) ≡ length ms
n_automata names silently vs [] es l = refl
n_automata names silently vs (m ∷ ms) [] l = absurd cc
n_automata names silently vs (m ∷ ms) (e ∷ es) l = ap suc (n_automata names silently [] ms es (omega arith))

one_numbered : {X Y : Type 0} (f : ℕ → X → Y) (k : ℕ) (b : Bool) (x : X) → numbered (λ i a. f i a ∷ []) k (only_if b x) ≡ map (f k) (only_if b x)
one_numbered f k true x = refl
one_numbered f k false x = refl

pub edges_watched : (file : prism.File) → EdgesWatched file
edges_watched file v w sound alike s h =
    let g = translated file in
    let names = new_names file in
    let silently = earns_silently file in
    let mods = module_automata names silently (location_values names file) (bodies file) names.modules in
    let at_element = jani_moment.element_at g w (state_of file s) in
    let k = n_bodies file in
    let a = n_automata names silently (location_values names file) (bodies file) names.modules (for_modules file) in
    let b = element_total file in
    let c = length-append mods (monitor names file) in
    ap (numbered (λ i a. at_element i a ∷ []) 0) (elements_are file)
    ∙ numbered_at (λ i a. at_element i a ∷ []) 0 (length file.modules) mods (monitor names file) (omega arith)
    ∙ ap₂ (λ x y. x ++ y)
    (modules_here file v w sound alike s h.values silently (location_values names file) 0 (bodies file) names.modules (for_modules file) (omega arith) h.commands
    ∙ ap (λ ps. shifted (edge_label silently names.action) (length (element_names g)) (map (prism_moment.part_at file v s) ps)) (sym (written_parts file sound.written.modules)))
    (one_numbered at_element (length file.modules) (has_monitor file) (automaton names zz_monitor [] (monitor_edges names file)))

pub quiet_label : (new : Name → Name) (a : Option Name) → edge_label false new a ≡ option_map new a
quiet_label new None = refl
quiet_label new (Some a) = refl
