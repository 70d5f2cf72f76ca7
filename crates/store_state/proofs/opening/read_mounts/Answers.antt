use Rattle.std.proofs.Common.{◌≡◌, ap, sym, ◌∙◌, subst, None}
use Rattle.std.specs.Prelude.{Option}
use Rattle.gopass_base.specs.Text.{Text}
use Rattle.disk_model.specs.Answers.{Reads}
use Rattle.disk_model.specs.declared.disk.Got.{Got}
use Rattle.pending_journal.specs.Service.{without_service}
use Rattle.store_state.specs.State.{AreMounts, mounts_path}
use Rattle.store_state.proofs.OpeningLemmas.{mounts_shown}
use Rattle.store_state.proofs.opening.read_mounts.Goals as goal

pub returns-in_ok-only-in-Absent-clause-mounts : goal.returns-in_ok-only-in-Absent-clause-mounts
returns-in_ok-only-in-Absent-clause-mounts g c told =
    let files = (g.D.Disk.meaning.view c.args.vault.now.disk).files in
    let start = c.args.vault.now.root in
    let root = c.args.root.now in
    let read = subst (λ (x : Got). Reads (without_service start files c.args.own.now.mounts) 131072 x) c.in-Absent.is (c.in_ok-mounts_file.ensures.got told) in
    let none : files (mounts_path root) ≡ None = ap (λ (r : Text). files (mounts_path r)) c.requires.root ∙ (sym (mounts_shown start files) ∙ (ap (without_service start files) (sym c.requires.own.mounts_is) ∙ read)) in
    subst (λ (file : Option Text). AreMounts root file c.in_ok-only-in-Absent.field-0) (sym none) c.in_ok-only-in-Absent.ensures
