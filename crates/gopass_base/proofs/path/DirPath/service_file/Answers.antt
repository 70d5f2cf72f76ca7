use Rattle.gopass_base.proofs.JoinLemmas.{service_good}
use Rattle.gopass_base.proofs.path.DirPath.service_file.Goals as goal

pub file_at-requires : goal.file_at-requires
file_at-requires c dir = rw c.text.ensures (service_good c.args.self.now c.args.file dir)
