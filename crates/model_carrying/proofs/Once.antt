-- How carrying a path ends is fixed by the bytes of both files and the words.
use Rattle.std.specs.Prelude.{◌≡◌, ◌≢◌, ◌||◌, ℕ, zero, suc, ◌+◌, List, [], ◌∷◌, false, Ok, Err}
use Rattle.std.proofs.Common.{refl, sym, ap, ap₂, subst, ◌∙◌}
use Rattle.std.proofs.lemmas.Option.{same_Some}
use Rattle.basics.specs.Results.{err_same, not_ok, ok_same}
use Rattle.bridge_io.specs.declared.reason.Fault.{Fault}
use Rattle.name_rules.specs.Least.{IsLeast}
use Rattle.name_rules.proofs.Plain.{no_least}
use Rattle.process_core.specs.Steps.{Process}
use Rattle.instance_start.specs.Description.{Description}
use Rattle.row_check.specs.Laws.{PathReadOnce}
use Rattle.row_check.specs.declared.data.ReadPath.{ReadPath}
use Rattle.carry_maps.specs.declared.map.CarryMap.{CarryMap}
use Rattle.path_carry.specs.declared.data.Carried.{Carried}
use Rattle.path_carry.specs.declared.data.Carried.TheVariants as C
use Rattle.path_carry.specs.Carried.{CarriedToJani, CarriedToPrism}
use Rattle.prism_tree.specs.Syntax as prism
use Rattle.prism_names.specs.Flat.{flat}
use Rattle.prism_print.specs.Same as prism_places
use Rattle.prism_parse.specs.Laws.{OneSyntax}
use Rattle.prism_check.specs.PlacesLaws.{PlacesStayAside, SizesFaultAlike}
use Rattle.prism_check.specs.SizeFaults.{size_faults}
use Rattle.prism_instance.specs.Described.{DescribedAlike, prism_description}
use Rattle.jani_tree.specs.Syntax as jani
use Rattle.jani_instance.specs.Described.{jani_description}
use Rattle.prism_translation.specs.Refused.{refused}
use Rattle.prism_translation.specs.Translated as to_prism
use Rattle.jani_to_prism.specs.Promise.{IsPrismOf}
use Rattle.command_words.specs.declared.request.Lang.{Lang}
use Rattle.command_words.specs.declared.request.Lang.TheVariants.{Prism, Jani}
use Rattle.command_words.specs.Words.{Carrying}
use Rattle.model_files.proofs.Once.{faulty_or_jani, faulty_or_prism, one_jani_fault, one_jani_tree, one_least, one_prism_fault, one_prism_tree, same_parts}
use Rattle.model_process.specs.Starts.{process_for}
use Rattle.model_process.specs.declared.ending.Ending.{Ending}
use Rattle.model_process.specs.declared.ending.Ending.TheVariants as E
use Rattle.model_carrying.specs.Counterparts.{Counterpart, HasCounterpart, IsCarryFault, IsJaniCounterpart, IsPrismCounterpart, of_file, of_size, of_translation}
use Rattle.model_carrying.specs.Ends.{ArePairStartable, EndsOnCarry, IsCarried, IsPathFault, carried, carry_ending, faulty, is_wide_pair, process_there, unfit, wide}
use Rattle.model_carrying.specs.Once.{CarryEndOrFault, OneCarryEnd, OneCarryFault}
use Rattle.model_carrying.proofs.JaniPlaces.{jani_alike}

-- ---- counterparts
same_counterpart : (o p : Counterpart) → o.description ≡ p.description → o.map ≡ p.map → o ≡ p
same_counterpart o p e f = ap₂ (λ d m. record { description = d; map = m }) e f

same_map : (m n : CarryMap) → m.locations ≡ n.locations → m.columns ≡ n.columns → m.labels ≡ n.labels → m ≡ n
same_map m n a b c = ap₂ (λ l q. record { locations = l; columns = q; labels = m.labels }) a b ∙ ap (λ l. record { locations = n.locations; columns = n.columns; labels = l }) c

-- a model describes one thing, and has one counterpart
module _ (alike : DescribedAlike) (aside : PlacesStayAside) where
  pub prism_alike : (f g : prism.File) → prism_places.bare_file f ≡ prism_places.bare_file g → prism_description f ≡ prism_description g
  prism_alike f g e = sym (alike (flat f) f refl) ∙ alike (flat f) g (aside f g e)

  one_jani : (tree : prism.File) (o p : Counterpart) → IsJaniCounterpart tree o → IsJaniCounterpart tree p → o ≡ p
  one_jani tree o p h k =
      same_counterpart o p (h.description ∙ jani_alike h.file k.file (h.translated.shape ∙ sym k.translated.shape) ∙ sym k.description)
      (same_map o.map p.map (h.map.locations ∙ sym k.map.locations) (h.map.columns ∙ sym k.map.columns) (h.map.labels ∙ sym k.map.labels))

  one_prism : (tree : jani.File) (o p : Counterpart) → IsPrismCounterpart tree o → IsPrismCounterpart tree p → o ≡ p
  one_prism tree o p h k =
      same_counterpart o p (h.description ∙ prism_alike h.file k.file (h.translated.shape ∙ sym k.translated.shape) ∙ sym k.description)
      (same_map o.map p.map (h.map.locations ∙ sym k.map.locations) (h.map.columns ∙ sym k.map.columns) (h.map.labels ∙ sym k.map.labels))

  one_counterpart : (lang : Lang) (bytes : List ℕ) (d e : Description) (o p : Counterpart) → HasCounterpart lang bytes d o → HasCounterpart lang bytes e p → (d ≡ e) × (o ≡ p)
  one_counterpart Prism bytes d e o p (t, h, x, a) (u, k, y, b) =
      let trees : u ≡ t = one_prism_tree bytes u t k h in
      (x ∙ ap prism_description (sym trees) ∙ sym y, one_jani t o p a (subst (λ z. IsJaniCounterpart z p) trees b))
  one_counterpart Jani bytes d e o p (t, h, x, a) (u, k, y, b) =
      let trees : u ≡ t = one_jani_tree bytes u t k h in
      (x ∙ ap jani_description (sym trees) ∙ sym y, one_prism t o p a (subst (λ z. IsPrismCounterpart z p) trees b))

-- ---- what a path is carried to
one_to_jani : (p q : Process) (m : CarryMap) (path : ReadPath) (r s : Carried) → CarriedToJani p q m path r → CarriedToJani p q m path s → r ≡ s
one_to_jani p q m path (C.Path x) (C.Path y) h k = ap C.Path (h.1 ∙ sym k.1)
one_to_jani p q m path (C.Path x) (C.No j) h k = absurd (let e = sym h.0 ∙ k in cc)
one_to_jani p q m path (C.Path x) (C.Wide j) h k = absurd k
one_to_jani p q m path (C.Path x) (C.TooMany j) h k = absurd k
one_to_jani p q m path (C.No i) (C.Path y) h k = absurd (let e = sym k.0 ∙ h in cc)
one_to_jani p q m path (C.No i) (C.No j) h k = ap C.No (same_Some i j (sym h ∙ k))
one_to_jani p q m path (C.No i) (C.Wide j) h k = absurd k
one_to_jani p q m path (C.No i) (C.TooMany j) h k = absurd k
one_to_jani p q m path (C.Wide i) s h k = absurd h
one_to_jani p q m path (C.TooMany i) s h k = absurd h

one_to_prism : (p q : Process) (m : CarryMap) (path : ReadPath) (r s : Carried) → CarriedToPrism p q m path r → CarriedToPrism p q m path s → r ≡ s
one_to_prism p q m path (C.Path x) (C.Path y) h k = ap C.Path (h.1 ∙ sym k.1)
one_to_prism p q m path (C.Path x) (C.No j) h k = absurd (let e = sym h.0.0 ∙ k in cc)
one_to_prism p q m path (C.Path x) (C.Wide j) h k = absurd (let e = sym h.0.1 ∙ k.1 in cc)
one_to_prism p q m path (C.Path x) (C.TooMany j) h k = absurd (let e = sym h.0.1 ∙ k.1 in cc)
one_to_prism p q m path (C.No i) (C.Path y) h k = absurd (let e = sym k.0.0 ∙ h in cc)
one_to_prism p q m path (C.No i) (C.No j) h k = ap C.No (same_Some i j (sym h ∙ k))
one_to_prism p q m path (C.No i) (C.Wide j) h k = absurd (let e = sym k.0 ∙ h in cc)
one_to_prism p q m path (C.No i) (C.TooMany j) h k = absurd (let e = sym k.0 ∙ h in cc)
one_to_prism p q m path (C.Wide i) (C.Path y) h k = absurd (let e = sym k.0.1 ∙ h.1 in cc)
one_to_prism p q m path (C.Wide i) (C.No j) h k = absurd (let e = sym h.0 ∙ k in cc)
one_to_prism p q m path (C.Wide i) (C.Wide j) h k = same_Some (C.Wide i) (C.Wide j) (sym h.1 ∙ k.1)
one_to_prism p q m path (C.Wide i) (C.TooMany j) h k = same_Some (C.Wide i) (C.TooMany j) (sym h.1 ∙ k.1)
one_to_prism p q m path (C.TooMany i) (C.Path y) h k = absurd (let e = sym k.0.1 ∙ h.1 in cc)
one_to_prism p q m path (C.TooMany i) (C.No j) h k = absurd (let e = sym h.0 ∙ k in cc)
one_to_prism p q m path (C.TooMany i) (C.Wide j) h k = same_Some (C.TooMany i) (C.Wide j) (sym h.1 ∙ k.1)
one_to_prism p q m path (C.TooMany i) (C.TooMany j) h k = same_Some (C.TooMany i) (C.TooMany j) (sym h.1 ∙ k.1)

one_carried : (lang : Lang) (p q : Process) (m : CarryMap) (path : ReadPath) (r s : Carried) → IsCarried lang p q m path r → IsCarried lang p q m path s → r ≡ s
one_carried Prism p q m path r s h k = one_to_jani p q m path r s h k
one_carried Jani p q m path r s h k = one_to_prism p q m path r s h k

-- ---- on a model and its counterpart
module _ (read_once : PathReadOnce) (d : Description) (o : Counterpart) (c : Carrying) (bytes : List ℕ) where
  narrow_pair : ArePairStartable d o c.given → is_wide_pair d o c.given ≡ false
  narrow_pair s = ap₂ (λ a b. a || b) s.here.narrow s.there

  one_on_models : (e g : Ending) → EndsOnCarry d o c bytes e → EndsOnCarry d o c bytes g → e ≡ g
  one_on_models e g (unfit i n p) (unfit j m q) = p ∙ ap (λ k. E.Word (4 + 1 + k)) (same_Some i j (sym n ∙ m)) ∙ sym q
  one_on_models e g (unfit i n p) (wide m w q) = absurd (let x = sym m ∙ n in cc)
  one_on_models e g (unfit i n p) (faulty m w f q) = absurd (let x = sym m ∙ n in cc)
  one_on_models e g (unfit i n p) (carried s r file keeps q) = absurd (let x = sym s.here.fits ∙ n in cc)
  one_on_models e g (wide n v p) (unfit j m q) = absurd (let x = sym n ∙ m in cc)
  one_on_models e g (wide n v p) (wide m w q) = p ∙ sym q
  one_on_models e g (wide n v p) (faulty m w f q) = absurd (let x = sym w ∙ v in cc)
  one_on_models e g (wide n v p) (carried s r file keeps q) = absurd (let x = sym (narrow_pair s) ∙ v in cc)
  one_on_models e g (faulty n v f p) (unfit j m q) = absurd (let x = sym n ∙ m in cc)
  one_on_models e g (faulty n v f p) (wide m w q) = absurd (let x = sym v ∙ w in cc)
  one_on_models e g (faulty n v f p) (faulty m w k q) = p ∙ sym q
  one_on_models e g (faulty n v f p) (carried s r file keeps q) = absurd (f s.here.faultless)
  one_on_models e g (carried s r file keeps p) (unfit j m q) = absurd (let x = sym s.here.fits ∙ m in cc)
  one_on_models e g (carried s r file keeps p) (wide m w q) = absurd (let x = sym (narrow_pair s) ∙ w in cc)
  one_on_models e g (carried s r file keeps p) (faulty m w k q) = absurd (k s.here.faultless)
  one_on_models e g (carried s r (x, a, h) keeps p) (carried t u (y, b, k) kept q) =
      let paths : y ≡ x = ok_same y x (read_once (process_for d c.given) bytes (Ok y) (Ok x) b a) in
      let here = process_for d c.given in
      let there = process_there d o c.given in
      p ∙ ap carry_ending (one_carried c.lang here there o.map x r u h (subst (λ z. IsCarried c.lang here there o.map z u) paths k)) ∙ sym q

  one_break : (f g : Fault) → IsPathFault d o c bytes f → IsPathFault d o c bytes g → f ≡ g
  one_break f g h k = same_parts f g (err_same f.at g.at (read_once (process_for d c.given) bytes (Err f.at) (Err g.at) h.breaks.1 k.breaks.1)) (h.breaks.0 ∙ sym k.breaks.0)

  end_or_break : (e : Ending) (f : Fault) → EndsOnCarry d o c bytes e → IsPathFault d o c bytes f → ⊥
  end_or_break e f (unfit i n p) h = let x = sym h.sound.here.fits ∙ n in cc
  end_or_break e f (wide m w p) h = let x = sym (narrow_pair h.sound) ∙ w in cc
  end_or_break e f (faulty m w k p) h = k h.sound.here.faultless
  end_or_break e f (carried s r (x, a, k) keeps p) h = not_ok x f.at (read_once (process_for d c.given) bytes (Ok x) (Err f.at) a h.breaks.1)

-- ---- the file of the model
one_model_fault : OneSyntax → (lang : Lang) (bytes : List ℕ) (f g : Fault) → IsCarryFault lang bytes f → IsCarryFault lang bytes g → f ≡ g
one_model_fault one Prism bytes f g h k = one_prism_fault one bytes f g h k
one_model_fault one Jani bytes f g (of_file h) (of_file k) = one_jani_fault bytes f g h k
one_model_fault one Jani bytes f g (of_file h) (of_translation t r l) = absurd (faulty_or_jani bytes f t h r)
one_model_fault one Jani bytes f g (of_file h) (of_size t r a new is large at) = absurd (faulty_or_jani bytes f t h r)
one_model_fault one Jani bytes f g (of_translation t r l) (of_file k) = absurd (faulty_or_jani bytes g t k r)
one_model_fault one Jani bytes f g (of_translation t r l) (of_translation u s m) = one_least (refused t) f g l (subst (λ x. IsLeast (refused x) g) (one_jani_tree bytes u t s r) m)
one_model_fault one Jani bytes f g (of_translation t r l) (of_size u s a new is large at) = absurd (no_least (refused t) f (subst (λ x. refused x ≡ []) (one_jani_tree bytes u t s r) a) l)
one_model_fault one Jani bytes f g (of_size t r a new is large at) (of_file k) = absurd (faulty_or_jani bytes g t k r)
one_model_fault one Jani bytes f g (of_size t r a new is large at) (of_translation u s m) = absurd (no_least (refused u) g (subst (λ x. refused x ≡ []) (one_jani_tree bytes t u r s) a) m)
one_model_fault one Jani bytes f g (of_size t r a new is large at) (of_size u s b other was huge is_at) = at ∙ sym is_at

module _ (sizes : SizesFaultAlike) where
  -- a file that has a counterpart isn't refused
  passes_or_not : (t u : jani.File) (o : Counterpart) (new : prism.File) → t ≡ u → IsPrismCounterpart t o → IsPrismOf u new → size_faults new ≢ [] → ⊥
  passes_or_not t u o new e h is large = large (sizes new h.file (is.shape ∙ ap (λ x. prism_places.bare_file (to_prism.translated x)) (sym e) ∙ sym h.translated.shape) ∙ h.sized)

  counterpart_or_fault : (lang : Lang) (bytes : List ℕ) (d : Description) (o : Counterpart) (f : Fault) → HasCounterpart lang bytes d o → IsCarryFault lang bytes f → ⊥
  counterpart_or_fault Prism bytes d o f (t, h, x, a) k = faulty_or_prism bytes f t k h
  counterpart_or_fault Jani bytes d o f (t, h, x, a) (of_file k) = faulty_or_jani bytes f t k h
  counterpart_or_fault Jani bytes d o f (t, h, x, a) (of_translation u s m) = no_least (refused u) f (subst (λ z. refused z ≡ []) (one_jani_tree bytes t u h s) a.accepted) m
  counterpart_or_fault Jani bytes d o f (t, h, x, a) (of_size u s b new is large at) = passes_or_not t u o new (one_jani_tree bytes t u h s) a is large

-- ---- both files
module _ (alike : DescribedAlike) (aside : PlacesStayAside) (read_once : PathReadOnce) where
  pub one_carry_end : OneCarryEnd
  one_carry_end c [] e g h k = absurd h
  one_carry_end c (model ∷ []) e g h k = absurd h
  one_carry_end c (model ∷ path ∷ []) e g (d, o, a, h) (b, p, z, k) =
      let same = one_counterpart alike aside c.lang model b d p o z a in
      one_on_models read_once d o c path e g h (subst (λ x. EndsOnCarry d x c path g) same.1 (subst (λ x. EndsOnCarry x p c path g) same.0 k))
  one_carry_end c (model ∷ path ∷ more ∷ files) e g h k = absurd h

  pub one_carry_fault : OneSyntax → SizesFaultAlike → OneCarryFault
  one_carry_fault one sizes c [] i j f g h k = absurd h
  one_carry_fault one sizes c (model ∷ []) i j f g h k = absurd h
  one_carry_fault one sizes c (model ∷ path ∷ []) zero zero f g h k = (refl, one_model_fault one c.lang model f g h k)
  one_carry_fault one sizes c (model ∷ path ∷ []) zero (suc zero) f g h (b, p, z, k) = absurd (counterpart_or_fault sizes c.lang model b p f z h)
  one_carry_fault one sizes c (model ∷ path ∷ []) zero (suc (suc j)) f g h k = absurd k
  one_carry_fault one sizes c (model ∷ path ∷ []) (suc zero) zero f g (d, o, a, h) k = absurd (counterpart_or_fault sizes c.lang model d o g a k)
  one_carry_fault one sizes c (model ∷ path ∷ []) (suc zero) (suc zero) f g (d, o, a, h) (b, p, z, k) =
      let same = one_counterpart alike aside c.lang model b d p o z a in
      (refl, one_break read_once d o c path f g h (subst (λ x. IsPathFault d x c path g) same.1 (subst (λ x. IsPathFault x p c path g) same.0 k)))
  one_carry_fault one sizes c (model ∷ path ∷ []) (suc zero) (suc (suc j)) f g h k = absurd k
  one_carry_fault one sizes c (model ∷ path ∷ []) (suc (suc i)) j f g h k = absurd h
  one_carry_fault one sizes c (model ∷ path ∷ more ∷ files) i j f g h k = absurd h

  pub carry_end_or_fault : SizesFaultAlike → CarryEndOrFault
  carry_end_or_fault sizes c [] e i f h k = h
  carry_end_or_fault sizes c (model ∷ []) e i f h k = h
  carry_end_or_fault sizes c (model ∷ path ∷ []) e zero f (d, o, a, h) k = counterpart_or_fault sizes c.lang model d o f a k
  carry_end_or_fault sizes c (model ∷ path ∷ []) e (suc zero) f (d, o, a, h) (b, p, z, k) =
      let same = one_counterpart alike aside c.lang model b d p o z a in
      end_or_break read_once d o c path e f h (subst (λ x. IsPathFault d x c path f) same.1 (subst (λ x. IsPathFault x p c path f) same.0 k))
  carry_end_or_fault sizes c (model ∷ path ∷ []) e (suc (suc i)) f h k = k
  carry_end_or_fault sizes c (model ∷ path ∷ more ∷ files) e i f h k = h
