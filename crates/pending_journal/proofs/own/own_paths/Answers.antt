use Rattle.std.proofs.Common.{◌∙◌, ap, sym, codes}
use Rattle.gopass_base.specs.Text.{Text}
use Rattle.gopass_base.specs.Paths.{path_in}
use Rattle.pending_journal.proofs.StageLemmas.{fresh_good, stage_dir_good}
use Rattle.pending_journal.proofs.own.own_paths.Goals as goal

pub file_at-requires : goal.file_at-requires
file_at-requires c = fresh_good c.args.root.now

pub file_at-requires-2 : goal.file_at-requires-2
file_at-requires-2 c = stage_dir_good c.args.root.now

pub invariant_of-result : goal.invariant_of-result
invariant_of-result c =
    let same = sym c.in_ok-copy.ensures.copy in
    record {
      own = record {
        journal_is = c.in_ok-service_file.ensures ∙ ap (λ (root : Text). path_in root (codes ".gopass-journal")) same;
        fresh_is = c.in_ok-file_at.ensures ∙ ap (λ (root : Text). path_in root (codes ".gopass-journal.new")) same;
        stage_is = c.in_ok-file_at-2.ensures ∙ ap (λ (root : Text). path_in root (codes ".gopass-stage")) same;
      };
    }
