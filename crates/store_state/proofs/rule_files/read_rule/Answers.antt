use Rattle.std.proofs.Common.{◌≤◌, length, subst}
use Rattle.std.specs.Prelude.{Err}
use Rattle.std.proofs.lemmas.Result.{err_from_is_err_and}
use Rattle.gopass_base.specs.Text.{Text}
use Rattle.disk_model.specs.Answers.{Reads, IsWithin}
use Rattle.disk_model.specs.declared.disk.Got.{Got}
use Rattle.pending_journal.specs.Service.{without_service}
use Rattle.store_state.specs.RuleFiles.{TellsRule}
use Rattle.store_state.proofs.RuleFileLemmas.{told_there}
use Rattle.store_state.proofs.RuleLemmas.{rule_file_plain}
use Rattle.store_state.proofs.rule_files.read_rule.Goals as goal

pub returns-in_err-rule_of-in-Bytes-clause-reads :
    goal.returns-in_err-rule_of-in-Bytes-clause-reads
returns-in_err-rule_of-in-Bytes-clause-reads g c told =
    let p = err_from_is_err_and c.from_residual-in_err-rule_of-in-Bytes.result c.from_residual-in_err-rule_of-in-Bytes.ensures.1 in
    let (k, mount, at) = c.in_ok-path.ensures.path in
    let files = (g.D.Disk.meaning.view c.args.vault.now.disk).files in
    let here = subst (λ (x : Got). Reads (without_service c.args.vault.now.root files c.in_ok-path.path) 65536 x) c.in-Bytes.is (c.in_ok-rule_file.ensures.got told) in
    let short : length c.in-Bytes.bytes.items ≤ 65536 = subst (λ (x : Got). IsWithin 65536 x) c.in-Bytes.is c.in_ok-rule_file.ensures.bound in
    rw (p.1, p.2)
    (told_there c.args.vault.now.root files c.args.mounts.now c.args.folder.now c.in_ok-path.path c.in-Bytes.bytes.items k mount at here short c.in_err-rule_of-in-Bytes.field-0.0
    (subst (λ (b : Text). TellsRule c.in_ok-path.path b (Err c.in_err-rule_of-in-Bytes.field-0.0)) c.deref.ensures.value c.in_err-rule_of-in-Bytes.ensures))

pub rule_file-requires : goal.rule_file-requires
rule_file-requires g c =
    let (k, mount, at) = c.in_ok-path.ensures.path in
    rule_file_plain c.args.vault.now.root c.args.mounts.now c.args.folder.now c.in_ok-path.path k c.requires c.in_ok-path.ensures.table c.in_ok-path.ensures.good mount at
