use Rattle.std.proofs.Common.{◌≡◌, ◌++◌, codes, rules}
use Rattle.mount_table.proofs.FileLemmas.{file_good}
use Rattle.mount_table.proofs.name.Name.file_in.Goals as goal

pub file_at-requires : goal.file_at-requires
file_at-requires c dir =
    let name = c.text.ensures in
    let rest : c.deref.result.now ≡ c.args.self.now ++ codes ".gpg" = search rules in
    rw rest (file_good c.args.dir.now c.args.self.now dir name.good)
