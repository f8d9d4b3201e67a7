-- Answers from groups to modules and elements.
use Rattle.std.proofs.Common.{◌≡◌, List, map, Option, Result, subst}
use Rattle.process_core.specs.Ready.{Values, Name, Ready, Sum, Combination, Vector, of_modules, of_elements}
use Rattle.process_core.specs.Choices.{choices}
use Rattle.process_core.specs.Bounds.{excess}
use Rattle.process_core.specs.Answers.{Answers}
use Rattle.process_core.specs.Seen.{seen_choice}
use Rattle.process_core.specs.declared.data.StepFail.{StepFail}
use Rattle.process_core.specs.declared.data.Choice.{Choice}
use Rattle.state_choices.specs.Groups.{Group, of_groups, module_groups, element_groups}
use Rattle.state_choices.specs.Trimmed.{trimmed_group}
use Rattle.state_choices.proofs.TrimmedChoices.{trimming_law}
use Rattle.state_choices.proofs.GroupLaws.{group_laws}

abbrev ChoicesOf : Values → Result (List Choice) StepFail → List Combination → Type 0
ChoicesOf s r cs = Answers (excess cs) (λ x. map seen_choice x ≡ choices s cs) r

pub of_trimmed : (s : Values) (r : Result (List Choice) StepFail) (gs shown : List Group) (cs : List Combination) → shown ≡ map trimmed_group gs → of_groups gs ≡ cs → ChoicesOf s r (of_groups shown) → ChoicesOf s r cs
of_trimmed s r gs shown cs e f a = subst (ChoicesOf s r) f (trimming_law s gs r (subst (λ gs. ChoicesOf s r (of_groups gs)) e a))

pub of_module_groups : (s : Values) (r : Result (List Choice) StepFail) (rewards : Option Name → List Sum) (ms : List (List Ready)) (shown : List Group) → shown ≡ map trimmed_group (module_groups rewards ms) →
    ChoicesOf s r (of_groups shown) → ChoicesOf s r (of_modules rewards ms)
of_module_groups s r rewards ms shown e a = of_trimmed s r (module_groups rewards ms) shown (of_modules rewards ms) e (group_laws.modules rewards ms) a

pub of_element_groups : (s : Values) (r : Result (List Choice) StepFail) (rewards : List Sum) (vectors : List Vector) (es : List (List Ready)) (shown : List Group) → shown ≡ map trimmed_group (element_groups rewards vectors es) →
    ChoicesOf s r (of_groups shown) → ChoicesOf s r (of_elements rewards vectors es)
of_element_groups s r rewards vectors es shown e a = of_trimmed s r (element_groups rewards vectors es) shown (of_elements rewards vectors es) e (group_laws.elements rewards vectors es) a
