use Rattle.std.specs.Prelude.{map}
use Rattle.std.proofs.Common.{subst}
use Rattle.prop_grammar.specs.declared.syntax.Written.{Written}
use Rattle.prop_grammar.specs.Syntax.{written_of}
use Rattle.std.specs.Prelude.{List}
use Rattle.prop_check.specs.Read.{ReadsWritten}
use Rattle.prop_check.proofs.Reading.{reads, reads_formed, refuses_text}
use Rattle.prop_check.proofs.files.read_props.Goals as goal

pub returns-in-Err-clause-reads : goal.returns-in-Err-clause-reads
returns-in-Err-clause-reads c = refuses_text c.args.bytes.now c.args.model.now.file c.in-Err.refused c.in-Err.ensures.err

pub returns-clause-reads : goal.returns-clause-reads
returns-clause-reads c =
    let file = c.args.model.now.file in
    reads c.args.bytes.now file (map written_of c.in-Ok.written) c.in-Ok.ensures.ok c.read_written.result
    (subst (λ (ws : List Written). ReadsWritten file (map written_of ws) c.read_written.result) c.as_slice.ensures c.read_written.ensures)

pub returns-clause-form : goal.returns-clause-form
returns-clause-form c =
    let file = c.args.model.now.file in
    reads_formed c.args.bytes.now file (map written_of c.in-Ok.written) c.spelled_form_law.ensures c.in-Ok.ensures.ok c.read_written.result
    (subst (λ (ws : List Written). ReadsWritten file (map written_of ws) c.read_written.result) c.as_slice.ensures c.read_written.ensures)
