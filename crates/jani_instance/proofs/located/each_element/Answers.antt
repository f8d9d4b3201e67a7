use Rattle.std.proofs.Common.{◌≡◌, ◌∙◌, ◌+◌, ◌<◌, ap, subst, sym, length, length-append, ◌∷◌, []}
use Rattle.std.specs.Prelude.{Some, slice_get}
use Rattle.std.specs.Option.{option_map}
use Rattle.std.proofs.lemmas.List.{length-map}
use Rattle.std.proofs.lemmas.Option.{slice_get-get_or, slice_get-map}
use Rattle.jani_tree.specs.Syntax.{file_of}
use Rattle.jani_meaning.specs.Elements.{elements}
use Rattle.jani_instance.specs.Actions.{IsBasis, IsNumbered, actions_of}
use Rattle.jani_instance.specs.Built.{IsNamedElementOf}
use Rattle.jani_instance.specs.Parts.{automaton_at}
use Rattle.jani_instance.specs.declared.acting.Basis.{Basis}
use Rattle.jani_instance.specs.declared.parts.Part.{Part}
use Rattle.jani_instance.proofs.Numbering.{built_more, got_at, zip_at}
use Rattle.std.proofs.Common.{ℕ, get_or}
use Rattle.basics.specs.Members.{length_zip}
use Rattle.jani_instance.proofs.located.each_element.Goals as goal

has_table : (b : Basis) → IsBasis b → (i : ℕ) → i < length b.parts.now → i < length b.actions.now
has_table b h i l =
    subst (λ n. i < n) (sym (length-map b.parts.now automaton_at) ∙ ap length h.parts ∙ length_zip IsNumbered (elements (file_of b.file.now)) b.actions.now h.acts) l

is_there : (b : Basis) → IsBasis b → (i : ℕ) (p : Part) → i < length b.parts.now → p ≡ get_or b.parts.now i p → slice_get (elements (file_of b.file.now)) i ≡ Some (automaton_at p)
is_there b h i p l e = ap (λ as_. slice_get as_ i) (sym h.parts) ∙ slice_get-map automaton_at b.parts.now i ∙ ap (option_map automaton_at) (got_at b.parts.now i p l e)

pub bounds-basis-i : goal.bounds-basis-i
bounds-basis-i c = has_table c.args.basis.now c.requires.basis c.loop-i.i c.loop-i-test.true

pub element-requires-clause-numbers : goal.element-requires-clause-numbers
element-requires-clause-numbers c =
    let b = c.args.basis.now in
    let i = c.loop-i.i in
    zip_at IsNumbered (elements (file_of b.file.now)) b.actions.now i (automaton_at c.part-item.result) _ c.requires.basis.acts (is_there b c.requires.basis i c.part-item.result c.loop-i-test.true c.part-item.is)
    (slice_get-get_or b.actions.now i c.index-basis-i.result (has_table b c.requires.basis i c.loop-i-test.true))

pub loop-i-preserved : goal.loop-i-preserved
loop-i-preserved c =
    let b = c.args.basis.now in
    let file = file_of b.file.now in
    let i = c.loop-i.i in
    let p = c.part-item.result in
    let e = c.in_ok-element.field-0 in (
      ap length c.in_ok-push.ensures.items ∙ length-append c.loop-i.all.items (e ∷ []) ∙ ap (λ n. n + 1) c.loop-i.invariant.0,
      built_more (λ k a d. IsNamedElementOf file (actions_of a) k a d) (elements file) c.loop-i.all.items c.push.new.self.items i (automaton_at p) e c.loop-i.invariant.0
          (is_there b c.requires.basis i p c.loop-i-test.true c.part-item.is) c.loop-i.invariant.1 c.in_ok-element.ensures c.in_ok-push.ensures.items,
    )
