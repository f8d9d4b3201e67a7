use Rattle.model_process.proofs.Once.{claim_end_or_fault, end_or_fault, one_claim_end, one_end, one_file_fault, one_model_fault}
use Rattle.model_process.proofs.laws.one_end_law.Goals as goal

pub returns-clause-end : goal.returns-clause-end
returns-clause-end c = one_end c.report_laws.ensures.shown c.report_laws.ensures.along c.report_laws.ensures.seed

pub returns-clause-model_fault : goal.returns-clause-model_fault
returns-clause-model_fault c = one_model_fault c.one_syntax.ensures

pub returns-clause-either : goal.returns-clause-either
returns-clause-either c = end_or_fault

pub returns-clause-claim : goal.returns-clause-claim
returns-clause-claim c =
    one_claim_end c.verdict_laws.ensures.one_path c.verdict_laws.ensures.one_rows c.form_laws.ensures.one_path c.form_laws.ensures.one_states c.form_laws.ensures.one_rows c.bound_laws.ensures.answer

pub returns-clause-file_fault : goal.returns-clause-file_fault
returns-clause-file_fault c =
    one_file_fault c.verdict_laws.ensures.one_path c.verdict_laws.ensures.one_rows c.form_laws.ensures.one_path c.form_laws.ensures.one_states c.form_laws.ensures.one_rows c.bound_laws.ensures.answer c.one_syntax.ensures

pub returns-clause-claim_either : goal.returns-clause-claim_either
returns-clause-claim_either c =
    claim_end_or_fault c.verdict_laws.ensures.one_path c.verdict_laws.ensures.one_rows c.form_laws.ensures.one_path c.form_laws.ensures.one_states c.form_laws.ensures.one_rows c.bound_laws.ensures.answer
