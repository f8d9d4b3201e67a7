use Rattle.std.proofs.Common.{◌∙◌, sym}
use Rattle.module_parts.proofs.EntryClasses.{elements_counted}
use Rattle.module_parts.proofs.entries.Names.outside.Goals as goal

pub returns : goal.returns
returns c = c.len.ensures ∙ sym (elements_counted c.args.self.now.file.now.elements)
