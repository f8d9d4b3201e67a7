use Rattle.jani_tree.specs.Syntax.{File}
use Rattle.prism_translation.specs.StateLaws.{state_of}
use Rattle.prism_translation.specs.SameMeaning.{SoundMeansTheSame}
use Rattle.prism_translation.proofs.Apart.{made_for}
use Rattle.prism_translation.proofs.NamesAlike.{constant_alike}
use Rattle.prism_translation.proofs.Domains.{domains_alike}
use Rattle.prism_translation.proofs.States.{state_long, states_into, states_onto}
use Rattle.prism_translation.proofs.OneToOne.{states_one}
use Rattle.prism_translation.proofs.Conditions.{initial_alike}
use Rattle.prism_translation.proofs.FaultsAlike.{faults_alike}
use Rattle.prism_translation.proofs.SoundEdges.{choices_meant}
use Rattle.prism_translation.proofs.MarksAlike.{marks_alike}
use Rattle.prism_translation.proofs.laws.meaning_law.Goals as goal

same : (file : File) → SoundMeansTheSame file
same file sound given = record {
  faults = λ v w alike f. faults_alike file v w sound alike.gives f;
  process = λ v w alike none. record {
    into = λ s is. states_into file v w sound alike.gives s is;
    one = λ s t h k e. states_one file s t (state_long file v s h) (state_long file v t k) e;
    onto = λ u is. states_onto file v w sound alike.gives u is;
    initial = λ s is. initial_alike file v w sound alike.gives s is;
    marks = λ s is. marks_alike file v w sound alike.gives given s is;
    choices = λ s is. choices_meant file v w sound alike.gives s is (alike.pays (state_of file s) (states_into file v w sound alike.gives s is));
  };
}

pub returns : goal.returns
returns c = record {
  actions = made_for;
  constants = λ file sound v w alike. constant_alike file v w sound.constants alike;
  ranges = λ file sound v w alike. domains_alike file v w sound alike;
  into = λ file sound v w alike. states_into file v w sound alike;
  onto = λ file sound v w alike. states_onto file v w sound alike;
  one = λ file v s t h k. states_one file s t (state_long file v s h) (state_long file v t k);
  initial = λ file sound v w alike s is. initial_alike file v w sound alike s is;
  faults = λ file sound v w alike f. faults_alike file v w sound alike f;
  marks = λ file sound given v w alike s is. marks_alike file v w sound alike given s is;
  same = same;
  choices = λ file sound v w alike s is pay. choices_meant file v w sound alike s is pay;
}
