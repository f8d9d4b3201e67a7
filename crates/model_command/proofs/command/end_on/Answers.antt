use Rattle.std.proofs.Common.{sym, subst, ◌≡◌, ◌∙◌, [], slice_index_or}
use Rattle.command_words.specs.Words.{request_of, walking_of, checking_of, carrying_of, specialising_of, files_of}
use Rattle.model_command.specs.Run.{IsEndOn, IsSpecialiseEnd, IsTaskEnd, IsToldOfFiles, IsWalkEnd, names_of}
use Rattle.model_command.proofs.FilesEnds.{carry_told, carry_within, claim_told, claim_within, some_named, specialise_told, two_named, walk_told}
use Rattle.model_command.proofs.Several.{one_file}
use Rattle.model_command.proofs.command.end_on.Goals as goal

pub returns-in-OnFile : goal.returns-in-OnFile
returns-in-OnFile c =
    subst (λ r. IsEndOn (request_of r) c.args.files.now (slice_index_or c.args.names.now 0 (record { ref_ptr = (0, 0); now = [] })).now c.told.result) (sym c.in-OnFile.is)
    (one_file (λ bytes. IsTaskEnd c.in-OnFile.task bytes c.told.result) c.in-OnFile.field-1.now c.args.names.now _ c.args.files.now _ _
    (subst (λ r. names_of c.args.names.now ≡ files_of (request_of r)) c.in-OnFile.is c.requires.names) c.requires.files c.index-files-0.is
    (subst (λ bytes. IsTaskEnd c.in-OnFile.task bytes c.told.result) c.as_slice-bytes.ensures (c.told.ensures c.in-OnFile.task c.perform.ensures)))

pub returns-in-Walk : goal.returns-in-Walk
returns-in-Walk c =
    let w = walking_of c.in-Walk.walking in
    subst (λ r. IsEndOn (request_of r) c.args.files.now (slice_index_or c.args.names.now 0 (record { ref_ptr = (0, 0); now = [] })).now c.ended.result) (sym c.in-Walk.is)
    (one_file (λ bytes. IsWalkEnd w bytes c.ended.result) w.file c.args.names.now _ c.args.files.now _ _
    (subst (λ r. names_of c.args.names.now ≡ files_of (request_of r)) c.in-Walk.is c.requires.names) c.requires.files c.index-files-0-in-Walk.is
    (subst (λ bytes. IsWalkEnd w bytes c.ended.result) c.as_slice-bytes-in-Walk.ensures (subst (IsWalkEnd w _) (sym c.ended.ensures) (walk_told w _ c.walk_on.result c.walk_on.ensures))))

-- the names of the files, and what is told of them
pub told_of_files-requires-clause-some : goal.told_of_files-requires-clause-some
told_of_files-requires-clause-some c =
    some_named c.args.names.now _ _ (subst (λ r. names_of c.args.names.now ≡ files_of (request_of r)) c.in-Check.is c.requires.names)

pub told_of_files-requires-clause-within : goal.told_of_files-requires-clause-within
told_of_files-requires-clause-within c = claim_within (checking_of c.in-Check.checking) c.args.files.now c.judge_on.result c.judge_on.ensures

pub returns-in-Check : goal.returns-in-Check
returns-in-Check c =
    let names = subst (λ r. names_of c.args.names.now ≡ files_of (request_of r)) c.in-Check.is c.requires.names in
    subst (λ r. IsEndOn (request_of r) c.args.files.now c.told_of_files.result.name.now c.told_of_files.result.outcome) (sym c.in-Check.is)
    (claim_told (checking_of c.in-Check.checking) c.args.files.now c.told_of_files.result.name.now c.judge_on.result c.told_of_files.result.outcome c.judge_on.ensures
    (subst (λ ns. IsToldOfFiles ns c.args.files.now c.judge_on.result c.told_of_files.result.name.now c.told_of_files.result.outcome) names c.told_of_files.ensures))

pub carry_on-requires-clause-files : goal.carry_on-requires-clause-files
carry_on-requires-clause-files c =
    c.requires.files ∙ two_named c.args.names.now _ _ (subst (λ r. names_of c.args.names.now ≡ files_of (request_of r)) c.in-Carry.is c.requires.names)

pub told_of_files-requires-in-Carry-clause-some : goal.told_of_files-requires-in-Carry-clause-some
told_of_files-requires-in-Carry-clause-some c =
    some_named c.args.names.now _ _ (subst (λ r. names_of c.args.names.now ≡ files_of (request_of r)) c.in-Carry.is c.requires.names)

pub told_of_files-requires-in-Carry-clause-within : goal.told_of_files-requires-in-Carry-clause-within
told_of_files-requires-in-Carry-clause-within c = carry_within (carrying_of c.in-Carry.carrying) c.args.files.now c.carry_on.result c.carry_on.ensures

pub returns-in-Carry : goal.returns-in-Carry
returns-in-Carry c =
    let names = subst (λ r. names_of c.args.names.now ≡ files_of (request_of r)) c.in-Carry.is c.requires.names in
    subst (λ r. IsEndOn (request_of r) c.args.files.now c.told_of_files-in-Carry.result.name.now c.told_of_files-in-Carry.result.outcome) (sym c.in-Carry.is)
    (carry_told (carrying_of c.in-Carry.carrying) c.args.files.now c.told_of_files-in-Carry.result.name.now c.carry_on.result c.told_of_files-in-Carry.result.outcome c.carry_on.ensures
    (subst (λ ns. IsToldOfFiles ns c.args.files.now c.carry_on.result c.told_of_files-in-Carry.result.name.now c.told_of_files-in-Carry.result.outcome) names c.told_of_files-in-Carry.ensures))

pub returns-in-Specialise : goal.returns-in-Specialise
returns-in-Specialise c =
    let p = specialising_of c.in-Specialise.specialising in
    subst (λ r. IsEndOn (request_of r) c.args.files.now (slice_index_or c.args.names.now 0 (record { ref_ptr = (0, 0); now = [] })).now c.ended-in-Specialise.result) (sym c.in-Specialise.is)
    (one_file (λ bytes. IsSpecialiseEnd p bytes c.ended-in-Specialise.result) p.file c.args.names.now _ c.args.files.now _ _
    (subst (λ r. names_of c.args.names.now ≡ files_of (request_of r)) c.in-Specialise.is c.requires.names) c.requires.files c.index-files-0-in-Specialise.is
    (subst (λ bytes. IsSpecialiseEnd p bytes c.ended-in-Specialise.result) c.as_slice-bytes-in-Specialise.ensures
    (subst (IsSpecialiseEnd p _) (sym c.ended-in-Specialise.ensures) (specialise_told p _ c.specialise_on.result c.specialise_on.ensures))))
