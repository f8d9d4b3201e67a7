-- What reading a properties file answers, from what reading its text and judging its properties answer.
use Rattle.std.specs.Prelude.{ℕ, List, [], ◌∷◌, map, true, false, Result, Ok, Err, IfOk, IsErr, IsErrAnd}
use Rattle.std.proofs.Common.{◌≡◌, ap, sym, subst, inl, inr, refl, arith}
use Rattle.std.specs.declared.alloc.AllocError.{AllocError}
use Rattle.bridge_io.specs.declared.reason.Fault.{Fault}
use Rattle.bridge_io.specs.declared.reason.Refused.{Refused}
use Rattle.bridge_io.specs.declared.reason.Refused.TheVariants.{Memory, At}
use Rattle.name_rules.specs.Least.{IsAmong, AtMost}
use Rattle.prism_tree.specs.Syntax.{File}
use Rattle.prism_parse.specs.Parsed.{UpToAll}
use Rattle.prop_grammar.specs.Syntax.{WrittenProperty}
use Rattle.prop_reader.specs.Parsed.{IsSpelled, IsLeastFault, Refuses}
use Rattle.prop_reader.specs.Laws.{OneSyntax, OneFile}
use Rattle.prop_trees.specs.declared.prism.Property.{Property}
use Rattle.prop_trees.specs.Form.{AreOfPrism}
use Rattle.prop_trees.specs.PrismFaults.{faults}
use Rattle.prop_trees.specs.Syntax.{property_of}
use Rattle.prop_check.specs.Laws.{OneListOfFaults, SpelledHaveForm}
use Rattle.prop_check.specs.Read.{of_text, of_properties, IsLeastOf, Reads, ReadsWritten}
use Rattle.prop_check.proofs.Filed.{are_of_prism}

-- ---- the fault of a text is the least of all
at_most_all : (f : Fault) (others : List Fault) → UpToAll f others → (g : Fault) → IsAmong g others → AtMost f g
at_most_all f [] u g i = absurd i
at_most_all f (o ∷ os) u g (inl e) = subst (AtMost f) (sym e) u.0
at_most_all f (o ∷ os) u g (inr i) = at_most_all f os u.1 g i

at_most_itself : (f : Fault) → AtMost f f
at_most_itself f = inr (refl, omega arith)

least_of : (f : Fault) (others : List Fault) → UpToAll f others → (g : Fault) → IsAmong g (f ∷ others) → AtMost f g
least_of f others u g (inl e) = subst (AtMost f) (sym e) (at_most_itself f)
least_of f others u g (inr i) = at_most_all f others u g i

least_text : (bytes : List ℕ) (file : File) (f : Fault) → IsLeastFault bytes f → IsLeastOf bytes file f
least_text bytes file f h = record {
  all = f ∷ h.others;
  are = of_text f h.others h.faults;
  least = record { among = inl refl; least = λ g i. least_of f h.others h.least g i };
}

pub refuses_text : (bytes : List ℕ) (file : File) (r : Refused) → Refuses bytes r → Reads bytes file (Err r)
refuses_text bytes file (Memory e) h = tt
refuses_text bytes file (At f) h = least_text bytes file f h

-- ---- properties that a text spells, judged
pub reads : (bytes : List ℕ) (file : File) (written : List WrittenProperty) → IsSpelled bytes written → (r : Result (List Property) Refused) →
    ReadsWritten file written r → Reads bytes file r
reads bytes file written spelled (Ok list) h = record { written = written; spelled = spelled; sound = h.sound; are = h.are }
reads bytes file written spelled (Err (Memory e)) h = tt
reads bytes file written spelled (Err (At f)) h = record { all = faults file written; are = of_properties written spelled; least = h }

pub reads_formed : (bytes : List ℕ) (file : File) (written : List WrittenProperty) → SpelledHaveForm → IsSpelled bytes written → (r : Result (List Property) Refused) →
    ReadsWritten file written r → IfOk r (λ list. AreOfPrism file (map property_of list))
reads_formed bytes file written form spelled (Ok list) h = are_of_prism file written (map property_of list) (form bytes written spelled.spells) h.sound h.are
reads_formed bytes file written form spelled (Err e) h = tt

-- want of memory
pub memory_written : (file : File) (written : List WrittenProperty) (r : Result (List Property) Refused) (m : AllocError) → IsErr r → IsErrAnd r (λ e. e ≡ Memory m) →
    ReadsWritten file written r
memory_written file written (Ok list) m h g = absurd (let e : false ≡ true = h in cc)
memory_written file written (Err e) m h g = let F : Refused → Type 0 = λ k. ReadsWritten file written (Err k) in subst F (sym g) tt

-- ---- one list of faults at most
some_fault : (f : Fault) (fs : List Fault) → f ∷ fs ≡ [] → ⊥
some_fault f fs e = cc

pub one_list : OneSyntax → OneFile → OneListOfFaults
one_list syntax texts bytes file fs gs (of_text f fs' s) (of_text g gs' t) = syntax bytes (f ∷ fs') (g ∷ gs') s t
one_list syntax texts bytes file fs gs (of_text f fs' s) (of_properties written t) = absurd (some_fault f fs' (syntax bytes (f ∷ fs') [] s t.clean))
one_list syntax texts bytes file fs gs (of_properties written s) (of_text g gs' t) = absurd (some_fault g gs' (syntax bytes (g ∷ gs') [] t s.clean))
one_list syntax texts bytes file fs gs (of_properties written s) (of_properties other t) = ap (faults file) (texts bytes written other s.spells t.spells)
