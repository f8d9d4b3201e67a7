use Rattle.std.proofs.Common.{Result, Ok, Err, map}
use Rattle.std.specs.Result.{IfOk}
use Rattle.jani_tree.specs.Syntax.{file_of, vector_of}
use Rattle.jani_instance.proofs.Kept.{vectors_are}
use Rattle.jani_instance.proofs.vectors.vectors.Goals as goal

if_then : {X E : Type 0} (P Q : X → Type 0) → ((x : X) → P x → Q x) → (r : Result X E) → IfOk r P → IfOk r Q
if_then P Q f (Ok x) h = f x h
if_then P Q f (Err e) h = h

pub returns : goal.returns
returns c =
    let b = c.args.basis.now in
    let file = file_of b.file.now in
    if_then _ _
    (λ ws h. vectors_are file b.actions.now c.requires.acts (map vector_of c.args.these.now) ws.items h)
    c.vectors_among.result c.vectors_among.ensures
