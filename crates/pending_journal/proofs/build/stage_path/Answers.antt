use Rattle.std.proofs.Common.{◌≡◌, IfOk, subst, ◌∙◌, ap, sym}
use Rattle.gopass_base.specs.Text.{Text}
use Rattle.gopass_base.specs.Paths.{IsFilePath, path_in}
use Rattle.pending_journal.proofs.StageLemmas.{stage_good, stage_path_is}
use Rattle.pending_journal.proofs.build.stage_path.Goals as goal

pub file_at-requires : goal.file_at-requires
file_at-requires c good = subst (λ (rest : Text). IsFilePath (path_in c.args.root.now rest)) (sym (c.deref.ensures ∙ c.in_ok-rest.ensures)) (stage_good c.args.root.now c.args.i good)

pub returns : goal.returns
returns c =
    let same = ap (path_in c.args.root.now) (c.deref.ensures ∙ c.in_ok-rest.ensures) ∙ stage_path_is c.args.root.now c.args.i in
    subst (λ (there : Text). IfOk c.file_at.result (λ path. path ≡ there)) same c.file_at.ensures
