-- The paths of the vault's own files.
use Rattle.std.specs.Prelude.{◌≡◌}
use Rattle.gopass_base.specs.Text.{Text}
use Rattle.pending_journal.specs.Service.{journal_path, fresh_path, stage_dir}

pub record AreVaultPaths (root journal fresh stage : Text) : Type 0 where
  pub journal_is : journal ≡ journal_path root
  pub fresh_is : fresh ≡ fresh_path root
  pub stage_is : stage ≡ stage_dir root
